use Rattle.mtp2_play.proofs.Comparing.{compared, new_refused, old_refused}
use Rattle.mtp2_play.proofs.text.diff.run_diff.Goals as goal

pub returns-in-Ok-named_side-clause-compared : goal.returns-in-Ok-named_side-clause-compared
returns-in-Ok-named_side-clause-compared g c =
    compared _ _ _ _ _ _ _ _ _ c.in-Ok.ensures.set c.in-Ok-named_side.ensures.set c.in-Ok.ensures.kept c.in-Ok-named_side.ensures.kept
    c.compare_sides.ensures.alike c.compare_sides.ensures.differ c.compare_sides.ensures.printed c.compare_sides.ensures.status

pub returns-in-Ok-clause-compared : goal.returns-in-Ok-clause-compared
returns-in-Ok-clause-compared g c = new_refused _ _ _ _ _ _ c.in-Ok.ensures.kept c.in-Err-named_side.ensures.refused c.in-Err-named_side.ensures.status

pub returns-clause-compared : goal.returns-clause-compared
returns-clause-compared g c = old_refused _ _ _ _ _ c.in-Err.ensures.refused c.in-Err.ensures.status
