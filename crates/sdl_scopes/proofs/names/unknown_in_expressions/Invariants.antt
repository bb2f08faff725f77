use Rattle.std.proofs.Common.{map, take}
use Rattle.std.specs.List.{flat_map}
use Rattle.sdl_tables.specs.Scopes.{Marks}
use Rattle.sdl_ast.specs.Views.{tree_of}
use Rattle.sdl_sound.specs.Names.{unknown, tree_names}
use Rattle.sdl_scopes.proofs.names.unknown_in_expressions.Given as goal

abbrev pub invariant-loop-expression : goal.invariant-loop-expression
invariant-loop-expression l =
    Marks l.place (unknown l.names (flat_map tree_names (map tree_of (take l.expression-index l.expressions))))
