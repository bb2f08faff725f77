use Rattle.std.proofs.Common.{map, take, ◌≡◌}
use Rattle.sdl_tables.specs.Rows.{row_input}
use Rattle.sdl_warnings.specs.Warned.{takes_in}
use Rattle.sdl_warnings.proofs.saves.takes_one.Given as goal

abbrev pub invariant-loop-row : goal.invariant-loop-row
invariant-loop-row l =
    l.any ≡ takes_in l.name (map row_input (take l.row-index l.inputs))
