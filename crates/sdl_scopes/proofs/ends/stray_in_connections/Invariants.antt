use Rattle.std.proofs.Common.{map, take}
use Rattle.std.specs.List.{flat_map}
use Rattle.sdl_sound.specs.Ends.{connection_strays}
use Rattle.sdl_tables.specs.Scopes.{Marks}
use Rattle.sdl_ast.specs.Views.{process_of, connection_of}
use Rattle.sdl_scopes.proofs.ends.stray_in_connections.Given as goal

abbrev pub invariant-loop-connection : goal.invariant-loop-connection
invariant-loop-connection l =
    Marks l.place (flat_map (connection_strays (process_of l.process)) (map connection_of (take l.connection-index l.connections)))
