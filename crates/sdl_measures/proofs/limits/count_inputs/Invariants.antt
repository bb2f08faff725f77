use Rattle.std.proofs.Common.{◌≡◌, map, take, min, length}
use Rattle.std.specs.List.{flat_map}
use Rattle.sdl_sound.specs.Longest.{input_piece}
use Rattle.sdl_tables.specs.Rows.{rows_inputs}
use Rattle.sdl_measures.proofs.limits.count_inputs.Given as goal

abbrev pub invariant-loop-rows : goal.invariant-loop-rows
invariant-loop-rows l =
    l.count ≡ min (length (flat_map (map input_piece) (map rows_inputs (take l.rows-index l.states)))) 18446744073709551615
