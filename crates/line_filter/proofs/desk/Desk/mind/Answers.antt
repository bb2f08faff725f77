use Rattle.std.proofs.Common.{refl}
use Rattle.line_filter.proofs.Telling.{told_minded}
use Rattle.line_filter.proofs.desk.Desk.mind.Goals as goal

pub returns-clause-made : goal.returns-clause-made
returns-clause-made g c = told_minded _ _ _ _ _ _ _ _ _ _ c.in_ok-tick.ensures c.in_ok-tell_all.ensures refl refl c.in_ok-goes_on.ensures.made
