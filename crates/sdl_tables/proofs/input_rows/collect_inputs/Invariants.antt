use Rattle.std.proofs.Common.{◌≡◌, ℕ, ◌<◌, vec_len, take, length, map}
use Rattle.std.specs.List.{flat_map}
use Rattle.sdl_tables.specs.Names.{given_to, part_inputs}
use Rattle.sdl_ast.specs.Views.{state_of}
use Rattle.sdl_tables.specs.Rows.{rows_at}
use Rattle.sdl_tables.proofs.input_rows.collect_inputs.Given as goal

abbrev pub invariant-loop-part : goal.invariant-loop-part
invariant-loop-part l =
    (vec_len l.inputs ≡ length l.states)
    × ((s : ℕ) → s < length l.states → rows_at l.inputs.items s ≡ flat_map (given_to part_inputs l.states s) (map state_of (take l.part-index l.part-items)))
