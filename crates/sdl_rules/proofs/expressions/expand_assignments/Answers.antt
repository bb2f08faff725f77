use Rattle.std.proofs.Common.{map, take_all, ap, ◌∙◌, List}
use Rattle.sdl_ast.specs.declared.tree.Assignment.{Assignment}
use Rattle.sdl_ast.specs.Views.{assignment_of}
use Rattle.sdl_rules.specs.Expansion.{expanded_assignment}
use Rattle.sdl_rules.specs.Views.{sight_of}
use Rattle.sdl_ast.specs.Plain.{Tree, PlainAssignment}
use Rattle.sdl_rules.proofs.Copying.{one_more}
use Rattle.sdl_rules.proofs.expressions.expand_assignments.Goals as goal

pub loop-assignment-preserved : goal.loop-assignment-preserved
loop-assignment-preserved c =
    let make : Tree → PlainAssignment = λ t. record { variable = c.assignment-item.result.variable; value = t } in
    one_more assignment_of (expanded_assignment (sight_of c.args.sight.now)) c.args.given.now c.loop-assignment.copies.items _ c.loop-assignment.assignment-index c.assignment-item.result _ c.loop-assignment-test.true c.assignment-item.is
    c.loop-assignment.invariant c.in_ok-push.ensures.items (ap make c.in_ok-expand_expression.ensures)

pub returns : goal.returns
returns c = c.loop-assignment.invariant ∙ ap (λ (l : List Assignment). map (expanded_assignment (sight_of c.args.sight.now)) (map assignment_of l)) (take_all c.loop-assignment.assignment-index c.args.given.now c.loop-assignment-test.false)
