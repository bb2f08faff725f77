-- The assignments done so far, and those still to do.
use Rattle.std.proofs.Common.{◌≡◌, drop, map}
use Rattle.sdl_ast.specs.Views.{assignment_of}
use Rattle.script_covered.specs.Ways.{assigned}
use Rattle.script_covered.proofs.ways.assign_all.Given as goal

abbrev pub invariant-loop-assignment : goal.invariant-loop-assignment
invariant-loop-assignment l =
    assigned l.names (map assignment_of (drop l.assignment-index l.assignments)) l.values.items ≡ assigned l.names (map assignment_of l.assignments) l.initial.values.items
