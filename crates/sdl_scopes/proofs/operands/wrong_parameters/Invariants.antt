use Rattle.std.proofs.Common.{map, take}
use Rattle.std.specs.List.{flat_map}
use Rattle.std.specs.Prelude.{zip}
use Rattle.sdl_sound.specs.Sorts.{wrong_parameter}
use Rattle.sdl_tables.specs.Names.{variables_of}
use Rattle.sdl_tables.specs.Scopes.{Marks}
use Rattle.sdl_ast.specs.Views.{process_of, tree_of}
use Rattle.sdl_scopes.proofs.operands.wrong_parameters.Given as goal

abbrev pub invariant-loop-number : goal.invariant-loop-number
invariant-loop-number l =
    Marks l.place (flat_map (wrong_parameter (variables_of (process_of l.process))) (zip l.sorts (map tree_of (take l.number l.parameters))))
