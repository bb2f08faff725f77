use Rattle.std.proofs.Common.{◌≡◌, map, take}
use Rattle.sdl_ast.specs.Views.{tree_of}
use Rattle.sdl_emit.proofs.copies.copy_expressions.Given as goal

abbrev pub invariant-loop-expression : goal.invariant-loop-expression
invariant-loop-expression l = map tree_of l.copies.items ≡ map tree_of (take l.expression-index l.given)
