use Rattle.std.proofs.Common.{◌≡◌, map, take}
use Rattle.sdl_ast.specs.Views.{tree_of}
use Rattle.sdl_rules.specs.Synonyms.{expanded_tree}
use Rattle.sdl_rules.specs.Views.{sight_of}
use Rattle.sdl_rules.proofs.expressions.expand_expressions.Given as goal

abbrev pub invariant-loop-expression : goal.invariant-loop-expression
invariant-loop-expression l =
    map tree_of l.copies.items ≡ map (expanded_tree (sight_of l.sight)) (map tree_of (take l.expression-index l.given))
