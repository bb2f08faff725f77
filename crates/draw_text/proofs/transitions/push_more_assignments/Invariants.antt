use Rattle.std.proofs.Common.{◌≡◌, ◌++◌, drop, map}
use Rattle.std.specs.List.{flat_map}
use Rattle.std.specs.Prelude.{codes}
use Rattle.sdl_ast.specs.Views.{process_of, assignment_of}
use Rattle.draw_text.specs.Statements.{assignment_text}
use Rattle.draw_text.proofs.transitions.push_more_assignments.Given as goal

abbrev pub invariant-loop-assignment : goal.invariant-loop-assignment
invariant-loop-assignment l =
    l.text.items ++ flat_map (λ a. codes "\n" ++ assignment_text (process_of l.process) a) (map assignment_of (drop l.assignment-index l.assignments)) ≡ l.initial.text.items ++ flat_map (λ a. codes "\n" ++ assignment_text (process_of l.process) a) (map assignment_of l.assignments)
