use Rattle.std.proofs.Common.{refl}
use Rattle.script_covered.proofs.Countings.{taken_at_else}
use Rattle.script_covered.proofs.coverage.Counts.take_else.Goals as goal

pub returns : goal.returns
returns c = λ xs has. taken_at_else xs c.args.self.now _ c.args.place c.take.ensures refl has
