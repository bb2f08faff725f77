use Rattle.std.proofs.Common.{map, take}
use Rattle.std.specs.List.{flat_map}
use Rattle.sdl_sound.specs.Actions.{in_connection}
use Rattle.sdl_rules.specs.Asked.{asked}
use Rattle.sdl_rules.specs.declared.statements.StatementRule.TheVariants.{Receivers}
use Rattle.sdl_tables.specs.Scopes.{Marks}
use Rattle.sdl_ast.specs.Views.{block_of, connection_of, process_of}
use Rattle.sdl_rules.specs.Backs.{Brings}
use Rattle.sdl_rules.proofs.lost.lost_in_connections.Given as goal

abbrev pub invariant-loop-number : goal.invariant-loop-number
invariant-loop-number l =
    let p = process_of l.process in
    (Marks l.place (flat_map (in_connection (asked Receivers (block_of l.block) p) p) (map connection_of (take l.number l.connections)))) × Brings (block_of l.block) p l.backs
