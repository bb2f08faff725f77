use Rattle.turn_code.proofs.Started.{started}
use Rattle.turn_code.proofs.laws.start_law.Goals as goal

pub returns : goal.returns
returns c = λ d p i t x valid there begins. started d p i t x valid there begins
