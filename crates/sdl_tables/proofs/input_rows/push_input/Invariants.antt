use Rattle.std.proofs.Common.{◌≡◌, map, ◌++◌, take}
use Rattle.sdl_ast.specs.Views.{stimulus_of, text_of}
use Rattle.sdl_tables.specs.Rows.{row_input}
use Rattle.sdl_tables.proofs.input_rows.push_input.Given as goal

abbrev pub invariant-loop-stimulus : goal.invariant-loop-stimulus
invariant-loop-stimulus l =
    map row_input l.rows.items ≡ map row_input l.initial.rows.items ++ map (λ s. record { at = l.input.at; stimulus = s; text = text_of l.input.transition }) (map stimulus_of (take l.stimulus-index l.stimulus-items))
