use Rattle.std.proofs.Common.{◌≡◌, ◌++◌, drop, map}
use Rattle.std.specs.List.{flat_map}
use Rattle.std.specs.Prelude.{codes}
use Rattle.sdl_ast.specs.Views.{process_of, tree_of}
use Rattle.draw_text.specs.Statements.{value_text}
use Rattle.draw_text.proofs.statements.push_more_values.Given as goal

abbrev pub invariant-loop-tree : goal.invariant-loop-tree
invariant-loop-tree l = l.text.items ++ flat_map (λ t. codes ", " ++ value_text (process_of l.process) t) (map tree_of (drop l.tree-index l.trees)) ≡ l.initial.text.items ++ flat_map (λ t. codes ", " ++ value_text (process_of l.process) t) (map tree_of l.trees)
