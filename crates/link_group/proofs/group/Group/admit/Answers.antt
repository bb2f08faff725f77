use Rattle.std.proofs.Common.{rules, arith}
use Rattle.link_group.proofs.ByLinks.{written, few_written}
use Rattle.link_group.proofs.Live.{over, live_from, admitted_is, live_admitted}
use Rattle.link_group.proofs.group.Group.admit.Goals as goal

pub invariant_of-self : goal.invariant_of-self
invariant_of-self c = (
  few_written c.self.inside.links.len _ c.admit.new.links c.self.inside.links.items (search rules) (omega (arith, c.self.invariant.0, c.self.inside.links.ok.0)),
  c.self.invariant.1,
  c.self.invariant.2,
  live_admitted c.args.link c.args.way (over c.self.inside.own c.self.inside.peer c.self.inside.unsure c.self.inside.accepted.items c.self.inside.gone.items c.self.inside.table.links _) _
      (admitted_is c.self.inside.own c.self.inside.peer c.self.inside.unsure c.args.link c.args.way c.self.inside.accepted.items c.self.inside.gone.items c.self.inside.table.links _ _ c.admit.new.links _ (written c.self.inside.links.len c.admit.new.links c.self.inside.links.items (search rules)) c.admit.ensures.links c.admit.ensures.table)
      (live_from c.self.inside.own c.self.inside.peer c.self.inside.unsure c.self.inside.accepted.items c.self.inside.gone.items c.self.inside.table.links _ _ (search rules) c.self.invariant.3),
)
