use Rattle.std.proofs.Common.{map, take, ◌≡◌}
use Rattle.sdl_ast.specs.Views.{assignment_of}
use Rattle.sdl_tables.specs.Names.{same_name}
use Rattle.std.specs.List.{list_any}
use Rattle.sdl_warnings.proofs.reads.assigns_in.Given as goal

abbrev pub invariant-loop-assignment : goal.invariant-loop-assignment
invariant-loop-assignment l =
    l.any ≡ list_any (λ a. same_name l.name a.variable.name) (map assignment_of (take l.assignment-index l.assignments))
