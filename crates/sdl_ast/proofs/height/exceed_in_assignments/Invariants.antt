use Rattle.std.proofs.Common.{◌≡◌, map, drop}
use Rattle.std.specs.Prelude.{nat_lt}
use Rattle.sdl_ast.specs.Heights.{assignments_height}
use Rattle.sdl_ast.specs.Views.{assignment_of}
use Rattle.sdl_ast.proofs.height.exceed_in_assignments.Given as goal

abbrev pub invariant-loop-assignment : goal.invariant-loop-assignment
invariant-loop-assignment l = nat_lt l.limit (assignments_height (map assignment_of l.assignments)) ≡ nat_lt l.limit (assignments_height (map assignment_of (drop l.assignment-index l.assignments)))
