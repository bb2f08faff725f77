use Rattle.line_filter.proofs.Telling.{behind_none, behind_minded}
use Rattle.line_filter.proofs.desk.Desk.go_behind.Goals as goal

pub returns-then-count-ne0-clause-made : goal.returns-then-count-ne0-clause-made
returns-then-count-ne0-clause-made g c = behind_none _ _ _ _ c.if-count-ne0.true

pub returns-clause-made : goal.returns-clause-made
returns-clause-made g c = behind_minded _ _ _ _ _ _ _ c.if-count-ne0.false c.in_ok-goes_on.ensures.made
