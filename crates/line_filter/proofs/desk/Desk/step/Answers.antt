use Rattle.line_filter.proofs.Telling.{told_step}
use Rattle.line_filter.proofs.desk.Desk.step.Goals as goal

pub returns-clause-made : goal.returns-clause-made
returns-clause-made g c = (c.in_ok-gives.gives, c.in_ok-push.ensures.items, told_step _ _ _ _ _ _ _ _ _ _ _ c.in_ok-gives.ensures.made c.in_ok-goes_on.ensures.made)
