use Rattle.std.proofs.Common.{refl}
use Rattle.script_covered.proofs.Countings.{taken_at_place}
use Rattle.script_covered.proofs.coverage.Counts.take_at.Goals as goal

pub returns : goal.returns
returns c = λ xs has. taken_at_place xs c.args.self.now _ c.args.place c.take.ensures refl has
