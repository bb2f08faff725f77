use Rattle.std.proofs.Common.{◌≡◌, take}
use Rattle.sdl_measures.specs.Measures.{capped}
use Rattle.sdl_measures.specs.Rows.{marked_size}
use Rattle.sdl_measures.proofs.limits.marked_size.Given as goal

abbrev pub invariant-loop-number : goal.invariant-loop-number
invariant-loop-number l = l.total ≡ capped (marked_size (take l.number l.marks) l.measures)
