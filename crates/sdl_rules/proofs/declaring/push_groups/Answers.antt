use Rattle.std.proofs.Common.{◌++◌, ap, ◌∙◌}
use Rattle.sdl_ast.specs.Plain.{PlainGroup}
use Rattle.sdl_ast.specs.Views.{group_of}
use Rattle.sdl_tables.proofs.Growing.{join_on}
use Rattle.sdl_rules.proofs.declaring.push_groups.Goals as goal
use Rattle.plain_laws.proofs.Lists.{mapped_more}

pub loop-group-preserved : goal.loop-group-preserved
loop-group-preserved c =
    join_on (λ (g : PlainGroup). g.names) _ _ _ _ _ _
    (mapped_more group_of c.args.groups.now c.loop-group.group-index c.group-item.result c.loop-group-test.true c.group-item.is)
    c.loop-group.invariant (c.in_ok-extend_from_slice.ensures.items ∙ ap (λ l. c.loop-group.names.items ++ l) c.deref.ensures.value)
