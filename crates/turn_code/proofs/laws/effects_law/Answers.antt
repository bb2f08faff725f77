use Rattle.turn_code.proofs.RightEffects.{right_effects}
use Rattle.turn_code.proofs.laws.effects_law.Goals as goal

pub returns : goal.returns
returns c = λ d t x e s valid fits is. right_effects d t valid x fits e s is
