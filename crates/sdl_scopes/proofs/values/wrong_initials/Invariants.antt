use Rattle.std.proofs.Common.{map, take}
use Rattle.std.specs.List.{flat_map}
use Rattle.sdl_sound.specs.Sorts.{wrong_initial}
use Rattle.sdl_tables.specs.Rows.{variable_of}
use Rattle.sdl_tables.specs.Scopes.{Marks}
use Rattle.sdl_scopes.proofs.values.wrong_initials.Given as goal

abbrev pub invariant-loop-variable : goal.invariant-loop-variable
invariant-loop-variable l =
    Marks l.place (flat_map wrong_initial (map variable_of (take l.variable-index l.variables)))
