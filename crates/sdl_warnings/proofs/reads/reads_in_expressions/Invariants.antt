use Rattle.std.proofs.Common.{map, take, ◌≡◌}
use Rattle.sdl_ast.specs.Views.{tree_of}
use Rattle.sdl_warnings.specs.Warned.{reads_in}
use Rattle.std.specs.List.{list_any}
use Rattle.sdl_warnings.proofs.reads.reads_in_expressions.Given as goal

abbrev pub invariant-loop-expression : goal.invariant-loop-expression
invariant-loop-expression l =
    l.any ≡ list_any (reads_in l.name) (map tree_of (take l.expression-index l.expressions))
