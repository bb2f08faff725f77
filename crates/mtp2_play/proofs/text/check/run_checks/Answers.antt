use Rattle.mtp2_play.proofs.InTurn.{alone, in_turn}
use Rattle.mtp2_play.proofs.text.check.run_checks.Goals as goal

pub returns-then-sets-eq1-clause-printed : goal.returns-then-sets-eq1-clause-printed
returns-then-sets-eq1-clause-printed g c = alone _ _ _ _ _ _ c.if-sets-eq1.true c.run_check.ensures c.run_check.ensures.ends

pub returns-else-sets-eq1-clause-printed : goal.returns-else-sets-eq1-clause-printed
returns-else-sets-eq1-clause-printed g c = in_turn _ _ _ _ _ c.if-sets-eq1.false c.check_each.ensures
