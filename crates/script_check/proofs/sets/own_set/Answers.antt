use Rattle.std.proofs.Common.{List, ℕ, sym, subst}
use Rattle.std.proofs.lemmas.Result.{IfOk-weaker, IfErr-weaker}
use Rattle.script_point.specs.Own.{text_of}
use Rattle.script_check.specs.Checked.{IsFound, IsSetOf}
use Rattle.turn_verify.specs.Blocks.{MatchesBlock}
use Rattle.script_check.proofs.Long.{load_refused}
use Rattle.script_check.proofs.sets.own_set.Goals as goal

pub with_limits-requires : goal.with_limits-requires
with_limits-requires c =
    subst (λ (text : List ℕ). IsSetOf text c.in-Ok.set) (sym c.text.ensures) (record { utf8 = c.in-Ok.ensures.utf8; loaded = c.in-Ok.ensures.accepted })

pub returns-in-Ok-clause-set : goal.returns-in-Ok-clause-set
returns-in-Ok-clause-set c = IfOk-weaker c.with_limits.result _ _ (λ found h. subst (λ (text : List ℕ). IsFound text found) c.text.ensures h) c.with_limits.ensures.set

pub returns-in-Ok-clause-fault : goal.returns-in-Ok-clause-fault
returns-in-Ok-clause-fault c = IfErr-weaker c.with_limits.result _ _ (λ e h judged. absurd (h judged)) c.with_limits.ensures.fault

pub returns-in-Err-clause-fault : goal.returns-in-Err-clause-fault
returns-in-Err-clause-fault c = load_refused (text_of c.args.own) c.in-Err.fault MatchesBlock c.in-Err.ensures.utf8 c.in-Err.ensures.refused c.in-Err.ensures.exact
