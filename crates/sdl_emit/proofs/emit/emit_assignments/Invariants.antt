use Rattle.std.proofs.Common.{◌≡◌, ◌++◌, map, drop}
use Rattle.sdl_ast.specs.Views.{assignment_of}
use Rattle.sdl_emit.specs.Scopes.{scope_in}
use Rattle.sdl_meaning.specs.Named.{NamedTasks}
use Rattle.sdl_meaning.specs.Code.{tasks_code}
use Rattle.sdl_emit.proofs.emit.emit_assignments.Given as goal

abbrev pub invariant-loop-assignment : goal.invariant-loop-assignment
invariant-loop-assignment l = record {
  code : l.code.items ++ tasks_code (scope_in l.names) (map assignment_of (drop l.assignment-index l.assignments)) ≡ l.initial.code.items ++ tasks_code (scope_in l.names) (map assignment_of l.assignments);
  named : NamedTasks (scope_in l.names) (map assignment_of (drop l.assignment-index l.assignments));
}
