use Rattle.std.proofs.Common.{◌≡◌, map, take}
use Rattle.sdl_ast.specs.Views.{connection_of}
use Rattle.sdl_tables.proofs.process_table.connector_ids.Given as goal

abbrev pub invariant-loop-connection : goal.invariant-loop-connection
invariant-loop-connection l = l.ids.items ≡ map (λ c. c.name) (map connection_of (take l.connection-index l.connections))
