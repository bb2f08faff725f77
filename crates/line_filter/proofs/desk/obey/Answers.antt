use Rattle.line_filter.proofs.Telling.{told_order}
use Rattle.line_filter.proofs.desk.obey.Goals as goal

pub returns : goal.returns
returns g c = told_order _ _ _ _ _ _ _ _ _ _ c.in_ok-answer.ensures c.in_ok-tell_answer.ensures c.in_ok-tell_all.ensures
