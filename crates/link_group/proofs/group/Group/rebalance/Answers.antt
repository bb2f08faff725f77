use Rattle.std.proofs.Common.{rules, arith}
use Rattle.link_group.proofs.ByLinks.{written, few_written}
use Rattle.link_group.proofs.Live.{live_from, live_rebalanced}
use Rattle.link_group.proofs.group.Group.rebalance.Goals as goal

pub invariant_of-self : goal.invariant_of-self
invariant_of-self c = (
  few_written c.self.inside.links.len _ c.forgive_all.new.links c.self.inside.links.items (search rules) (omega (arith, c.self.invariant.0, c.self.inside.links.ok.0)),
  c.self.invariant.1,
  c.self.invariant.2,
  live_rebalanced c.self.inside.own c.self.inside.peer c.self.inside.unsure c.self.inside.accepted.items c.self.inside.gone.items c.self.inside.table.links _ _ c.forgive_all.new.links _ (written c.self.inside.links.len c.forgive_all.new.links c.self.inside.links.items (search rules)) (search rules) (search rules) c.forgive_all.ensures (search rules) (live_from c.self.inside.own c.self.inside.peer c.self.inside.unsure c.self.inside.accepted.items c.self.inside.gone.items c.self.inside.table.links _ _ (search rules) c.self.invariant.3),
)
