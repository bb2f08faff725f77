use Rattle.line_play.proofs.SetRounds.{is_none, is_some_there}
use Rattle.line_play.proofs.set.answers.is_blank.Goals as goal

pub returns-clause-none : goal.returns-clause-none
returns-clause-none c = λ shown. is_none _ c.is_empty.result c.is_empty.ensures shown

pub returns-clause-some : goal.returns-clause-some
returns-clause-some c = λ denied. is_some_there _ c.is_empty.result c.is_empty.ensures denied
