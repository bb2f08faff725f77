use Rattle.std.proofs.Common.{◌≡◌, ◌++◌, drop, map}
use Rattle.sdl_ast.specs.Views.{assignment_of}
use Rattle.sdl_emit.specs.Scopes.{scope_in}
use Rattle.sdl_meaning.specs.Named.{NamedTasks}
use Rattle.sdl_compile.specs.Reads.{tasks_set}
use Rattle.sdl_compile.specs.Facts.{tasks_sets}
use Rattle.sdl_compile.proofs.sets.mark_assignments.Given as goal

abbrev pub invariant-loop-assignment : goal.invariant-loop-assignment
invariant-loop-assignment l = record {
  sets : l.sets.items ++ tasks_sets (scope_in l.names) l.set (map assignment_of (drop l.assignment-index l.assignments)) ≡ l.initial.sets.items ++ tasks_sets (scope_in l.names) l.fn.set (map assignment_of l.assignments);
  behind : tasks_set (scope_in l.names) l.set (map assignment_of (drop l.assignment-index l.assignments)) ≡ tasks_set (scope_in l.names) l.fn.set (map assignment_of l.assignments);
  named : NamedTasks (scope_in l.names) (map assignment_of (drop l.assignment-index l.assignments));
}
