use Rattle.line_play.proofs.SetRounds.{is_none, is_some_there, given_some, given_none}
use Rattle.line_play.proofs.set.round.give_out.Goals as goal

pub returns-then-is_empty : goal.returns-then-is_empty
returns-then-is_empty g c = given_none _ _ _ (is_none _ c.is_empty.result c.is_empty.ensures c.if-is_empty.true)

pub returns : goal.returns
returns g c = given_some _ _ _ _ (is_some_there _ c.is_empty.result c.is_empty.ensures c.if-is_empty.false) c.give.ensures
