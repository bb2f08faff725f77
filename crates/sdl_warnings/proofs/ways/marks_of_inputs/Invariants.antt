use Rattle.std.proofs.Common.{length, map, take, ℕ, ◌≡◌}
use Rattle.sdl_ast.specs.Views.{process_of}
use Rattle.sdl_tables.specs.Names.{states_of}
use Rattle.sdl_tables.specs.Rows.{row_input}
use Rattle.sdl_warnings.specs.Marked.{is_marked}
use Rattle.sdl_warnings.specs.Ways.{enters}
use Rattle.std.specs.List.{list_any}
use Rattle.sdl_warnings.proofs.ways.marks_of_inputs.Given as goal

abbrev pub invariant-loop-row : goal.invariant-loop-row
invariant-loop-row l =
    (length l.marks.items ≡ length (states_of (process_of l.process)))
    × ((n : ℕ) → is_marked l.marks.items n ≡ list_any (λ i. enters (process_of l.process) i.text n) (map row_input (take l.row-index l.inputs)))
