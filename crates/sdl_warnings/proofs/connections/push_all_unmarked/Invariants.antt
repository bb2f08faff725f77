use Rattle.std.proofs.Common.{map, take, ◌++◌, ◌≡◌}
use Rattle.sdl_ast.specs.Views.{connection_of, process_of}
use Rattle.sdl_warnings.specs.Warned.{unreached_connection}
use Rattle.std.specs.List.{flat_map}
use Rattle.sdl_warnings.proofs.connections.push_all_unmarked.Given as goal

abbrev pub invariant-loop-number : goal.invariant-loop-number
invariant-loop-number l =
    l.found.items ≡ l.initial.found.items ++ flat_map (unreached_connection (process_of l.process)) (map connection_of (take l.number l.connections))
