use Rattle.std.proofs.Common.{map, take, ◌≡◌}
use Rattle.sdl_tables.specs.Rows.{rows_inputs}
use Rattle.sdl_warnings.specs.Warned.{takes_in}
use Rattle.sdl_warnings.proofs.saves.taker_marks.Given as goal

abbrev pub invariant-loop-rows : goal.invariant-loop-rows
invariant-loop-rows l =
    l.marks.items ≡ map (takes_in l.name) (map rows_inputs (take l.rows-index l.inputs))
