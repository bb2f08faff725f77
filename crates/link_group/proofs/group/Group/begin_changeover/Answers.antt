use Rattle.std.proofs.Common.{rules, arith, ◌∙◌}
use Rattle.link_group.proofs.ByLinks.{written, few_written}
use Rattle.link_group.proofs.Fields.{order_here}
use Rattle.link_group.proofs.Live.{live_from, live_failed}
use Rattle.link_group.proofs.group.Group.begin_changeover.Goals as goal

pub returns-clause-order : goal.returns-clause-order
returns-clause-order c =
    c.message.ensures.is ∙ order_here c.args.self.now c.self.inside.own c.self.inside.peer c.args.link c.in_ok-kind.kind (search rules) (search rules) (search rules)

pub invariant_of-self : goal.invariant_of-self
invariant_of-self c = (
  few_written c.self.inside.links.len _ c.fail_at.new.links c.self.inside.links.items (search rules) (omega (arith, c.self.invariant.0, c.self.inside.links.ok.0)),
  c.self.invariant.1,
  c.self.invariant.2,
  live_failed c.fail_at.result c.self.inside.own c.self.inside.peer c.self.inside.unsure c.self.inside.accepted.items c.self.inside.gone.items c.self.inside.table.links _ c.fail_at.new.links _ c.args.link (written c.self.inside.links.len c.fail_at.new.links c.self.inside.links.items (search rules)) c.fail_at.ensures.fault c.fail_at.ensures.ok c.fail_at.ensures.err (live_from c.self.inside.own c.self.inside.peer c.self.inside.unsure c.self.inside.accepted.items c.self.inside.gone.items c.self.inside.table.links _ _ (search rules) c.self.invariant.3),
)

pub invariant_of-self-2 : goal.invariant_of-self-2
invariant_of-self-2 c = (
  few_written c.self.inside.links.len _ c.fail_at.new.links c.self.inside.links.items (search rules) (omega (arith, c.self.invariant.0, c.self.inside.links.ok.0)),
  c.self.invariant.1,
  c.self.invariant.2,
  live_failed c.fail_at.result c.self.inside.own c.self.inside.peer c.self.inside.unsure c.self.inside.accepted.items c.self.inside.gone.items c.self.inside.table.links _ c.fail_at.new.links _ c.args.link (written c.self.inside.links.len c.fail_at.new.links c.self.inside.links.items (search rules)) c.fail_at.ensures.fault c.fail_at.ensures.ok c.fail_at.ensures.err (live_from c.self.inside.own c.self.inside.peer c.self.inside.unsure c.self.inside.accepted.items c.self.inside.gone.items c.self.inside.table.links _ _ (search rules) c.self.invariant.3),
)
