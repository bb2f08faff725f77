use Rattle.std.proofs.Common.{◌≡◌, map, drop}
use Rattle.std.specs.Prelude.{nat_lt}
use Rattle.sdl_ast.specs.Heights.{tree_height, highest}
use Rattle.sdl_ast.specs.Views.{tree_of}
use Rattle.sdl_ast.proofs.height.exceed.Given as goal

abbrev pub invariant-loop-expression : goal.invariant-loop-expression
invariant-loop-expression l = nat_lt l.limit (highest tree_height (map tree_of l.expressions)) ≡ nat_lt l.limit (highest tree_height (map tree_of (drop l.expression-index l.expressions)))
