use Rattle.std.proofs.Common.{◌≡◌, subst}
use Rattle.std.specs.Prelude.{ℕ, Option, Some, IfOk, IfErr}
use Rattle.mtp2_text.specs.TextLimits.{limits_in, wrong_in}
use Rattle.script_play.specs.Limits.{messages_by}
use Rattle.script_play.proofs.limits.usual_in.Goals as goal

pub returns-clause-ok : goal.returns-clause-ok
returns-clause-ok c =
    let P : Option ℕ → Type 0 = λ m. IfOk c.within.result (λ usual. limits_in c.args.mode c.args.limits m c.octets_of-octets.result ≡ Some usual) in
    let Q : Option ℕ → Type 0 =
    λ n. IfOk c.within.result (λ usual. limits_in c.args.mode c.args.limits (messages_by c.args.chosen) n ≡ Some usual) in
    subst Q c.octets_of-octets.ensures (subst P c.messages_of-messages.ensures c.within.ensures.ok)

pub returns-clause-err : goal.returns-clause-err
returns-clause-err c =
    let P : Option ℕ → Type 0 = λ m. IfErr c.within.result (λ name. wrong_in c.args.mode c.args.limits m c.octets_of-octets.result ≡ Some name) in
    let Q : Option ℕ → Type 0 =
    λ n. IfErr c.within.result (λ name. wrong_in c.args.mode c.args.limits (messages_by c.args.chosen) n ≡ Some name) in
    subst Q c.octets_of-octets.ensures (subst P c.messages_of-messages.ensures c.within.ensures.err)
