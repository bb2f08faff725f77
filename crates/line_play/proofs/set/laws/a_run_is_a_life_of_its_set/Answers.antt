use Rattle.line_play.proofs.SetLaws.{lived_along}
use Rattle.line_play.proofs.set.laws.a_run_is_a_life_of_its_set.Goals as goal

pub returns : goal.returns
returns c = lived_along
