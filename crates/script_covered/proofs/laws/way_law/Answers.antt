use Rattle.script_covered.proofs.Endings.{ends_so}
use Rattle.script_covered.proofs.laws.way_law.Goals as goal

pub returns : goal.returns
returns c = λ d q x e s is. ends_so d q x e s is
