use Rattle.std.proofs.Common.{map, take}
use Rattle.std.specs.List.{flat_map}
use Rattle.sdl_ast.specs.Views.{process_of, tree_of}
use Rattle.sdl_unset.specs.Flows.{Does}
use Rattle.sdl_sound.specs.Paths.{tree_events}
use Rattle.sdl_unset.proofs.flow.parameters_flow.Given as goal

abbrev pub invariant-loop-parameter : goal.invariant-loop-parameter
invariant-loop-parameter l =
    Does (process_of l.table) (flat_map tree_events (map tree_of (take l.parameter-index l.parameters))) l.flow
