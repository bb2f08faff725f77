use Rattle.sdl_measures.proofs.Budgets.{within_code}
use Rattle.sdl_measures.proofs.laws.budget_law.Goals as goal

pub returns : goal.returns
returns c = within_code
