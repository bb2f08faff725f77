use Rattle.turn_code.proofs.Longest.{longest, most_effects}
use Rattle.turn_code.proofs.laws.path_law.Goals as goal

pub returns : goal.returns
returns c = record { budget = λ d t valid. longest d t valid; effects = λ d t valid. most_effects d t valid }
