use Rattle.std.proofs.Common.{List, ℕ, refl, sym, subst}
use Rattle.std.proofs.lemmas.Result.{IfOk-weaker}
use Rattle.script_seen.specs.TracingGroups.{AreSaid, says_none, says_some}
use Rattle.script_seen.proofs.changeovers.said_octets.Goals as goal

pub returns-in-Some : goal.returns-in-Some
returns-in-Some c =
    let A : List ℕ → Type 0 = λ octets. AreSaid c.args.line.now octets in
    IfOk-weaker c.octets_of.result _ (λ v. A v.items) (λ v is. subst A (sym is) (says_some c.in-Some.digits.now c.in-Some.ensures.some)) c.octets_of.ensures

pub returns-in-None : goal.returns-in-None
returns-in-None c =
    let A : List ℕ → Type 0 = λ octets. AreSaid c.args.line.now octets in
    subst A (sym c.new.ensures.items) (says_none (c.in-None.ensures.none refl))
