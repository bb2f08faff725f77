use Rattle.std.proofs.Common.{◌≡◌, ℕ, ◌<◌, ◌++◌, List, vec_len, take}
use Rattle.sdl_ast.specs.Views.{state_of}
use Rattle.sdl_ast.specs.declared.expression.Identifier.{Identifier}
use Rattle.sdl_tables.specs.Names.{given_to}
use Rattle.sdl_tables.specs.Rows.{row_at}
use Rattle.sdl_tables.specs.Triggers.{taken_in}
use Rattle.sdl_tables.proofs.triggers.push_states.Given as goal

abbrev pub invariant-loop-id : goal.invariant-loop-id
invariant-loop-id l =
    (vec_len l.rows ≡ vec_len l.initial.rows)
    × ((of_part : ℕ → List Identifier) (s : ℕ) → s < vec_len l.initial.rows
    → row_at (taken_in of_part) l.rows.items s
    ≡ row_at (taken_in of_part) l.initial.rows.items s ++ given_to (λ _. of_part l.number) l.states s (record { names = take l.id-index l.id-items; clauses = (state_of l.part).clauses }))
