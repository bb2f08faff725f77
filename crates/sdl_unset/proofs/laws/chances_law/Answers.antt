use Rattle.sdl_unset.proofs.Telling.{chances_shown}
use Rattle.sdl_unset.proofs.laws.chances_law.Goals as goal

pub returns : goal.returns
returns c = chances_shown
