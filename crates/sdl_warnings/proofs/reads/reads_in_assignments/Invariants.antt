use Rattle.std.proofs.Common.{map, take, ◌≡◌}
use Rattle.sdl_ast.specs.Views.{assignment_of}
use Rattle.sdl_warnings.specs.Warned.{reads_in}
use Rattle.std.specs.List.{list_any}
use Rattle.sdl_warnings.proofs.reads.reads_in_assignments.Given as goal

abbrev pub invariant-loop-assignment : goal.invariant-loop-assignment
invariant-loop-assignment l =
    l.any ≡ list_any (λ a. reads_in l.name a.value) (map assignment_of (take l.assignment-index l.assignments))
