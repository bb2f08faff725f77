use Rattle.std.proofs.Common.{map, take}
use Rattle.std.specs.List.{flat_map}
use Rattle.sdl_tables.specs.Scopes.{Marks}
use Rattle.sdl_ast.specs.Views.{block_of, process_of, state_of}
use Rattle.sdl_sound.specs.Names.{saves_unknown}
use Rattle.sdl_scopes.proofs.names.unknown_in_parts.Given as goal

abbrev pub invariant-loop-part : goal.invariant-loop-part
invariant-loop-part l =
    Marks l.place (flat_map (saves_unknown (block_of l.block) (process_of l.process)) (map state_of (take l.part-index l.parts)))
