use Rattle.std.proofs.Common.{◌≡◌, ℕ, [], List, vec_len}
use Rattle.sdl_ast.specs.declared.expression.Identifier.{Identifier}
use Rattle.sdl_tables.specs.Rows.{row_at}
use Rattle.sdl_tables.specs.Triggers.{taken_in}
use Rattle.sdl_tables.proofs.triggers.empty_rows.Given as goal

abbrev pub invariant-loop-state : goal.invariant-loop-state
invariant-loop-state l =
    (vec_len l.rows ≡ l._state) × ((of_part : ℕ → List Identifier) (s : ℕ) → row_at (taken_in of_part) l.rows.items s ≡ [])
