use Rattle.std.proofs.Common.{map, take}
use Rattle.std.specs.List.{flat_map}
use Rattle.sdl_ast.specs.Views.{process_of}
use Rattle.sdl_unset.specs.Flows.{Does}
use Rattle.sdl_sound.specs.Paths.{initial_sets}
use Rattle.sdl_tables.specs.Rows.{variable_of}
use Rattle.sdl_unset.proofs.flow.initials_flow.Given as goal

abbrev pub invariant-loop-variable : goal.invariant-loop-variable
invariant-loop-variable l =
    Does (process_of l.table) (flat_map initial_sets (map variable_of (take l.variable-index l.variables))) l.flow
