use Rattle.std.proofs.Common.{◌≡◌, ℕ, ◌<◌, ◌++◌, vec_len, take}
use Rattle.sdl_tables.specs.Names.{given_to}
use Rattle.sdl_ast.specs.Views.{state_of}
use Rattle.sdl_tables.specs.Rows.{names_at, part_names}
use Rattle.sdl_tables.proofs.state_names.push_states.Given as goal

abbrev pub invariant-loop-id : goal.invariant-loop-id
invariant-loop-id l =
    (vec_len l.states ≡ vec_len l.initial.states)
    × ((s : ℕ) → s < vec_len l.initial.states
    → names_at l.states.items s ≡ names_at l.initial.states.items s ++ given_to (part_names l.which) l.ids s (record { names = take l.id-index l.id-items; clauses = (state_of l.part).clauses }))
