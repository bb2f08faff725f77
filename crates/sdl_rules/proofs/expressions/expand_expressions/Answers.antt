use Rattle.std.proofs.Common.{map, take_all, ap, ◌∙◌, List}
use Rattle.sdl_ast.specs.declared.expression.Expression.{Expression}
use Rattle.sdl_ast.specs.Views.{tree_of}
use Rattle.sdl_rules.specs.Synonyms.{expanded_tree}
use Rattle.sdl_rules.specs.Views.{sight_of}
use Rattle.sdl_rules.proofs.Copying.{one_more}
use Rattle.sdl_rules.proofs.expressions.expand_expressions.Goals as goal

pub loop-expression-preserved : goal.loop-expression-preserved
loop-expression-preserved c =
    one_more tree_of (expanded_tree (sight_of c.args.sight.now)) c.args.given.now c.loop-expression.copies.items _ c.loop-expression.expression-index c.expression-item.result _ c.loop-expression-test.true c.expression-item.is
    c.loop-expression.invariant c.in_ok-push.ensures.items c.in_ok-expand_expression.ensures

pub returns : goal.returns
returns c = c.loop-expression.invariant ∙ ap (λ (l : List Expression). map (expanded_tree (sight_of c.args.sight.now)) (map tree_of l)) (take_all c.loop-expression.expression-index c.args.given.now c.loop-expression-test.false)
