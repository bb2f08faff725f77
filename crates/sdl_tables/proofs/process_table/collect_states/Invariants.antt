use Rattle.std.proofs.Common.{◌≡◌, map, take}
use Rattle.std.specs.List.{flat_map}
use Rattle.sdl_tables.specs.Names.{names_once}
use Rattle.sdl_ast.specs.Views.{state_of}
use Rattle.sdl_tables.proofs.process_table.collect_states.Given as goal

abbrev pub invariant-loop-part : goal.invariant-loop-part
invariant-loop-part l =
    l.names ≡ names_once (flat_map (λ part. part.names) (map state_of (take l.part-index l.parts)))
