use Rattle.std.proofs.Common.{rules, arith, sym}
use Rattle.link_group.proofs.ByLinks.{written, few_written}
use Rattle.link_group.proofs.Live.{live_from, live_kept, live_sent}
use Rattle.link_group.proofs.group.Group.send.Goals as goal

pub invariant_of-self : goal.invariant_of-self
invariant_of-self c = (
  few_written c.self.inside.links.len _ c.put_at.new.links c.self.inside.links.items (search rules) (omega (arith, c.self.invariant.0, c.self.inside.links.ok.0)),
  c.self.invariant.1,
  c.self.invariant.2,
  live_sent c.self.inside.own c.self.inside.peer c.self.inside.unsure c.self.inside.accepted.items _ c.self.inside.gone.items c.self.inside.table.links _ c.put_at.new.links _ c.args.msu c.in-Some.at (written c.self.inside.links.len c.put_at.new.links c.self.inside.links.items (search rules)) (search rules) (search rules) (search rules)
      (sym c.in-Ok.ensures.fault) c.in-Ok.ensures.ok (search rules) (live_from c.self.inside.own c.self.inside.peer c.self.inside.unsure c.self.inside.accepted.items c.self.inside.gone.items c.self.inside.table.links _ _ (search rules) c.self.invariant.3),
)

pub invariant_of-self-in-Err : goal.invariant_of-self-in-Err
invariant_of-self-in-Err c =
    (few_written c.self.inside.links.len _ c.put_at.new.links c.self.inside.links.items (search rules) (omega (arith, c.self.invariant.0, c.self.inside.links.ok.0)), c.self.invariant.1, c.self.invariant.2, live_kept c.self.inside.own c.self.inside.peer c.self.inside.unsure c.self.inside.accepted.items c.self.inside.gone.items c.self.inside.table.links _ c.put_at.new.links _ (written c.self.inside.links.len c.put_at.new.links c.self.inside.links.items (search rules)) c.in-Err.ensures.err (live_from c.self.inside.own c.self.inside.peer c.self.inside.unsure c.self.inside.accepted.items c.self.inside.gone.items c.self.inside.table.links _ _ (search rules) c.self.invariant.3))
