use Rattle.std.proofs.Common.{map, take}
use Rattle.std.specs.List.{flat_map}
use Rattle.sdl_sound.specs.Sorts.{wrong_in}
use Rattle.sdl_tables.specs.Names.{variables_of}
use Rattle.sdl_tables.specs.Scopes.{Marks}
use Rattle.sdl_ast.specs.Views.{process_of, tree_of}
use Rattle.sdl_scopes.proofs.operands.wrong_in_all.Given as goal

abbrev pub invariant-loop-parameter : goal.invariant-loop-parameter
invariant-loop-parameter l =
    Marks l.place (flat_map (wrong_in (variables_of (process_of l.process))) (map tree_of (take l.parameter-index l.parameters)))
