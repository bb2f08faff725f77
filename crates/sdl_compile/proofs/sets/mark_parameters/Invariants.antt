use Rattle.std.proofs.Common.{◌≡◌, ◌++◌, drop, map}
use Rattle.sdl_ast.specs.Views.{tree_of}
use Rattle.sdl_compile.specs.Facts.{trees_sets}
use Rattle.sdl_compile.proofs.sets.mark_parameters.Given as goal

abbrev pub invariant-loop-parameter : goal.invariant-loop-parameter
invariant-loop-parameter l = l.sets.items ++ trees_sets l.set (map tree_of (drop l.parameter-index l.parameters)) ≡ l.initial.sets.items ++ trees_sets l.set (map tree_of l.parameters)
