use Rattle.std.proofs.Common.{◌≡◌, map, take}
use Rattle.sdl_ast.specs.Views.{assignment_of}
use Rattle.sdl_emit.proofs.copies.copy_assignments.Given as goal

abbrev pub invariant-loop-assignment : goal.invariant-loop-assignment
invariant-loop-assignment l = map assignment_of l.copies.items ≡ map assignment_of (take l.assignment-index l.given)
