use Rattle.std.proofs.Common.{◌≡◌, ℕ, ◌<◌, vec_len, take, length, map}
use Rattle.std.specs.List.{flat_map}
use Rattle.sdl_tables.specs.Views.{state_of}
use Rattle.sdl_tables.specs.Names.{given_to, part_inputs}
use Rattle.sdl_tables.specs.Rows.{row_at}
use Rattle.sdl_sound.specs.Standing.{taken_in}
use Rattle.sdl_sound.proofs.standing.collect_states.Given as goal

abbrev pub invariant-loop-part : goal.invariant-loop-part
invariant-loop-part l =
    (vec_len l.states ≡ length l.names)
    × ((s : ℕ) → s < length l.names → row_at taken_in l.states.items s ≡ flat_map (given_to part_inputs l.names s) (map state_of (take l.part-index l.parts)))
