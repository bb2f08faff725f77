use Rattle.line_tending.proofs.Lives.{lives_calls}
use Rattle.line_tending.proofs.laws.a_life_is_by_calls.Goals as goal

pub returns : goal.returns
returns c = lives_calls
