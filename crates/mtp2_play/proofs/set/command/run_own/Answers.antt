use Rattle.std.proofs.Common.{◌≡◌, ℕ, List, Option, Some}
use Rattle.script_check.specs.Checked.{given, own_word}
use Rattle.script_check.specs.declared.sets.SetWord.{SetWord}
use Rattle.script_check.proofs.Own.{to_text}
use Rattle.line_play.specs.declared.set.opening.SetPlan.{SetPlan}
use Rattle.mtp2_words.specs.Own.{text_of}
use Rattle.mtp2_words.specs.mtp2_text_types.own.OwnSet.{OwnSet}
use Rattle.mtp2_words.specs.declared.set_ends.SetEnd.{SetEnd}
use Rattle.mtp2_play.specs.Printed.{IsSetRun}
use Rattle.mtp2_play.proofs.Known.{set_over, set_turned_down}
use Rattle.mtp2_play.proofs.set.command.run_own.Goals as goal

run_over : {R : Type 0} (name : List ℕ) (remaining : R → Option (List ℕ)) (own : OwnSet) (set : SetWord R) (plan : SetPlan) (end : SetEnd) (status : ℕ) → set ≡ own_word own
    → IsSetRun name (given remaining set) plan end status → IsSetRun name (Some (text_of own)) plan end status
run_over name remaining own set plan end status is s = to_text remaining own set (λ known. IsSetRun name known plan end status) is s

pub returns-in-Err : goal.returns-in-Err
returns-in-Err g c =
    run_over _ _ c.args.own _ _ _ _ c.own_set.ensures (set_turned_down _ _ _ _ c.in-Err.status c.in-Err.ensures.refused c.in-Err.ensures.status)

pub returns : goal.returns
returns g c =
    run_over _ _ c.args.own _ _ _ _ c.own_set.ensures (set_over c.messages_of_a_run_stand.ensures _ _ _ _ _ c.in-Ok.tender c.in-Ok.ensures.ok c.begin.ensures.ran c.begin.ensures.status)
