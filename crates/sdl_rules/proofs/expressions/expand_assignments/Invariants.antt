use Rattle.std.proofs.Common.{◌≡◌, map, take}
use Rattle.sdl_ast.specs.Views.{assignment_of}
use Rattle.sdl_rules.specs.Expansion.{expanded_assignment}
use Rattle.sdl_rules.specs.Views.{sight_of}
use Rattle.sdl_rules.proofs.expressions.expand_assignments.Given as goal

abbrev pub invariant-loop-assignment : goal.invariant-loop-assignment
invariant-loop-assignment l =
    map assignment_of l.copies.items ≡ map (expanded_assignment (sight_of l.sight)) (map assignment_of (take l.assignment-index l.given))
