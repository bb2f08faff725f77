use Rattle.std.proofs.Common.{map, take}
use Rattle.std.specs.List.{flat_map}
use Rattle.sdl_sound.specs.Actions.{in_connection}
use Rattle.sdl_rules.specs.Asked.{asked}
use Rattle.sdl_tables.specs.Scopes.{Marks}
use Rattle.sdl_ast.specs.Views.{block_of, connection_of, process_of}
use Rattle.sdl_rules.proofs.statements.in_connections.Given as goal

abbrev pub invariant-loop-connection : goal.invariant-loop-connection
invariant-loop-connection l =
    let p = process_of l.process in
    Marks l.place (flat_map (in_connection (asked l.rule (block_of l.block) p) p) (map connection_of (take l.connection-index l.connections)))
