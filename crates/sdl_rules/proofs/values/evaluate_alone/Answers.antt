use Rattle.std.proofs.Common.{List, [], ap, ◌∙◌}
use Rattle.sdl_ast.specs.declared.expression.Identifier.{Identifier}
use Rattle.sdl_ast.specs.Views.{tree_of}
use Rattle.sdl_meaning.specs.Valued.{valued}
use Rattle.sdl_rules.proofs.values.evaluate_alone.Goals as goal

pub returns : goal.returns
returns c = c.evaluate.ensures ∙ ap (λ (ids : List Identifier). valued ids (tree_of c.args.expression.now) []) c.new-names.ensures
