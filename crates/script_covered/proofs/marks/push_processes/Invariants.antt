-- The marks pushed so far, and those still to push.
use Rattle.std.proofs.Common.{◌≡◌, ◌++◌, drop, map}
use Rattle.std.specs.List.{flat_map}
use Rattle.sdl_ast.specs.Views.{process_of}
use Rattle.script_covered.specs.Lcov.{process_marks}
use Rattle.script_covered.proofs.marks.push_processes.Given as goal

abbrev pub invariant-loop-process : goal.invariant-loop-process
invariant-loop-process l =
    l.marks.items ++ flat_map process_marks (map process_of (drop l.process-index l.processes)) ≡ l.initial.marks.items ++ flat_map process_marks (map process_of l.processes)
