use Rattle.std.proofs.Common.{map, take_all, ap, ◌∙◌, List}
use Rattle.sdl_ast.specs.declared.tree.Group.{Group}
use Rattle.sdl_ast.specs.Views.{group_of}
use Rattle.sdl_rules.specs.Expansion.{expanded_group}
use Rattle.sdl_rules.specs.Views.{sight_of}
use Rattle.sdl_rules.proofs.Copying.{one_more, group_is}
use Rattle.sdl_rules.proofs.processes.expand_groups.Goals as goal

pub loop-group-preserved : goal.loop-group-preserved
loop-group-preserved c =
    one_more group_of (expanded_group (sight_of c.args.sight.now)) c.args.given.now c.loop-group.copies.items _ c.loop-group.group-index c.group-item.result _ c.loop-group-test.true c.group-item.is
    c.loop-group.invariant c.in_ok-push.ensures.items
    (group_is c.group-item.result.sort _ _ _ _ (c.in_ok-names.ensures.items ∙ c.as_slice.ensures.value) c.expand_initial-initial.ensures)

pub returns : goal.returns
returns c = c.loop-group.invariant ∙ ap (λ (l : List Group). map (expanded_group (sight_of c.args.sight.now)) (map group_of l)) (take_all c.loop-group.group-index c.args.given.now c.loop-group-test.false)
