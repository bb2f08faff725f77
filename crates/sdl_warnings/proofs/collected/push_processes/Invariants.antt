use Rattle.std.proofs.Common.{map, take, ◌++◌, ◌≡◌}
use Rattle.sdl_ast.specs.Views.{block_of, process_of}
use Rattle.sdl_warnings.specs.Warned.{process_warnings}
use Rattle.std.specs.List.{flat_map}
use Rattle.sdl_warnings.proofs.collected.push_processes.Given as goal

abbrev pub invariant-loop-process : goal.invariant-loop-process
invariant-loop-process l =
    l.found.items ≡ l.initial.found.items ++ flat_map (process_warnings (block_of l.block)) (map process_of (take l.process-index l.all))
