use Rattle.std.proofs.Common.{◌≡◌, ℕ, ◌<◌, List, vec_len, take, length, map}
use Rattle.std.specs.List.{flat_map}
use Rattle.sdl_ast.specs.Views.{state_of}
use Rattle.sdl_ast.specs.declared.expression.Identifier.{Identifier}
use Rattle.sdl_tables.specs.Names.{given_to, part_triggers}
use Rattle.sdl_tables.specs.Rows.{row_at}
use Rattle.sdl_tables.specs.Triggers.{taken_in, AreTaken}
use Rattle.sdl_tables.proofs.triggers.collect_parts.Given as goal

abbrev pub invariant-loop-number : goal.invariant-loop-number
invariant-loop-number l =
    (vec_len l.rows ≡ length l.states)
    × ((of_part : ℕ → List Identifier) → AreTaken of_part (map state_of l.parts) → (s : ℕ) → s < length l.states
    → row_at (taken_in of_part) l.rows.items s ≡ flat_map (given_to part_triggers l.states s) (map state_of (take l.number l.parts)))
