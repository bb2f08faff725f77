use Rattle.std.proofs.Common.{◌≡◌, ℕ, [], vec_len}
use Rattle.sdl_tables.specs.Rows.{rows_at}
use Rattle.sdl_tables.proofs.input_rows.empty_rows.Given as goal

abbrev pub invariant-loop-i : goal.invariant-loop-i
invariant-loop-i l =
    (vec_len l.inputs ≡ l._i) × ((s : ℕ) → rows_at l.inputs.items s ≡ [])
