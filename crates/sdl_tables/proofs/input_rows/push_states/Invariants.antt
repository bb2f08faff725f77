use Rattle.std.proofs.Common.{◌≡◌, ℕ, ◌<◌, ◌++◌, vec_len, take}
use Rattle.sdl_tables.specs.Names.{given_to, part_inputs}
use Rattle.sdl_ast.specs.Views.{state_of}
use Rattle.sdl_tables.specs.Rows.{rows_at}
use Rattle.sdl_tables.proofs.input_rows.push_states.Given as goal

abbrev pub invariant-loop-id : goal.invariant-loop-id
invariant-loop-id l =
    (vec_len l.inputs ≡ vec_len l.initial.inputs)
    × ((s : ℕ) → s < vec_len l.initial.inputs
    → rows_at l.inputs.items s ≡ rows_at l.initial.inputs.items s ++ given_to part_inputs l.states s (record { names = take l.id-index l.id-items; clauses = (state_of l.part).clauses }))
