use Rattle.std.proofs.Common.{◌≡◌, ℕ, [], vec_len}
use Rattle.sdl_tables.specs.Rows.{row_at}
use Rattle.sdl_sound.specs.Standing.{taken_in}
use Rattle.sdl_sound.proofs.standing.no_inputs.Given as goal

abbrev pub invariant-loop-state : goal.invariant-loop-state
invariant-loop-state l =
    (vec_len l.states ≡ l._state) × ((s : ℕ) → row_at taken_in l.states.items s ≡ [])
