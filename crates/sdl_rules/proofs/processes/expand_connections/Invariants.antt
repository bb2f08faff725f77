use Rattle.std.proofs.Common.{◌≡◌, map, take}
use Rattle.sdl_ast.specs.Views.{connection_of}
use Rattle.sdl_rules.specs.Expansion.{expanded_connection}
use Rattle.sdl_rules.specs.Views.{sight_of}
use Rattle.sdl_rules.proofs.processes.expand_connections.Given as goal

abbrev pub invariant-loop-connection : goal.invariant-loop-connection
invariant-loop-connection l =
    map connection_of l.copies.items ≡ map (expanded_connection (sight_of l.sight)) (map connection_of (take l.connection-index l.given))
