use Rattle.std.proofs.Common.{◌≡◌, ℕ, [], vec_len}
use Rattle.sdl_tables.specs.Rows.{names_at}
use Rattle.sdl_tables.proofs.state_names.empty_names.Given as goal

abbrev pub invariant-loop-i : goal.invariant-loop-i
invariant-loop-i l =
    (vec_len l.states ≡ l._i) × ((s : ℕ) → names_at l.states.items s ≡ [])
