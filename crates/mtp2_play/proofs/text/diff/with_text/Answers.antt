use Rattle.mtp2_play.proofs.Comparing.{side_refused}
use Rattle.mtp2_play.proofs.text.diff.with_text.Goals as goal

pub returns-in-Err-clause-refused : goal.returns-in-Err-clause-refused
returns-in-Err-clause-refused g c = λ two.
    side_refused _ c.in-Err.refusal _ _ _ (c.refuse_side.ensures.refused two) (c.refuse_side.ensures.printed two) c.in-Err.ensures.fault
