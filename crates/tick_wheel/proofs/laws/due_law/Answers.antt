use Rattle.tick_wheel.proofs.DueLemmas.{all_due}
use Rattle.tick_wheel.proofs.laws.due_law.Goals as goal

pub returns : goal.returns
returns c = λ deadlines clock. all_due deadlines clock
