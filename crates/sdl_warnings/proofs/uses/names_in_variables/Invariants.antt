use Rattle.std.proofs.Common.{map, take, ◌≡◌}
use Rattle.std.specs.List.{list_any}
use Rattle.sdl_tables.specs.Rows.{variable_of}
use Rattle.sdl_warnings.specs.Warned.{is_initial}
use Rattle.sdl_warnings.proofs.uses.names_in_variables.Given as goal

abbrev pub invariant-loop-variable : goal.invariant-loop-variable
invariant-loop-variable l =
    l.any ≡ list_any (is_initial l.name) (map variable_of (take l.variable-index l.variables))
