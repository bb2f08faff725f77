use Rattle.std.proofs.Common.{map, take, ◌++◌, ◌≡◌}
use Rattle.std.specs.List.{flat_map}
use Rattle.sdl_ast.specs.Views.{process_of}
use Rattle.sdl_warnings.specs.Warned.{unused_in_process}
use Rattle.sdl_warnings.proofs.synonyms.push_processes.Given as goal

abbrev pub invariant-loop-process : goal.invariant-loop-process
invariant-loop-process l =
    l.found.items ≡ l.initial.found.items ++ flat_map unused_in_process (map process_of (take l.process-index l.processes))
