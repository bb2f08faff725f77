use Rattle.std.proofs.Common.{◌≡◌, ℕ, ◌<◌, ◌++◌, vec_len, take}
use Rattle.sdl_tables.specs.Views.{state_of}
use Rattle.sdl_tables.specs.Names.{given_to, part_inputs}
use Rattle.sdl_tables.specs.Rows.{row_at}
use Rattle.sdl_sound.specs.Standing.{taken_in}
use Rattle.sdl_sound.proofs.standing.push_states.Given as goal

abbrev pub invariant-loop-id : goal.invariant-loop-id
invariant-loop-id l =
    (vec_len l.states ≡ vec_len l.initial.states)
    × ((s : ℕ) → s < vec_len l.initial.states
    → row_at taken_in l.states.items s ≡ row_at taken_in l.initial.states.items s ++ given_to part_inputs l.names s (record { names = take l.id-index l.id-items; clauses = (state_of l.part).clauses }))
