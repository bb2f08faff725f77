use Rattle.std.proofs.Common.{rules, arith, sym, ◌∙◌}
use Rattle.link_group.proofs.ByLinks.{written, few_written}
use Rattle.link_group.proofs.Live.{over, live_from, diverted_is, live_diverted, live_kept}
use Rattle.link_group.proofs.group.Group.divert.Goals as goal

pub invariant_of-self : goal.invariant_of-self
invariant_of-self c = (
  few_written c.self.inside.links.len _ c.divert_from.new.links _ (search rules) (omega (arith, c.self.invariant.0, c.self.inside.links.ok.0)),
  c.self.invariant.1,
  c.self.invariant.2,
  live_diverted c.args.link (over c.self.inside.own c.self.inside.peer c.self.inside.unsure c.self.inside.accepted.items c.self.inside.gone.items c.self.inside.table.links _) _
      (diverted_is c.self.inside.own c.self.inside.peer c.self.inside.unsure c.args.link c.self.inside.accepted.items c.self.inside.gone.items c.self.inside.table.links _ _ c.take_hand.new.links c.as_mut_slice-in-Some.result.now c.divert_from.new.links _ c.in-Some.messages.items
      (written c.self.inside.links.len c.divert_from.new.links _ (search rules)) (c.as_mut_slice-in-Some.ensures.value ∙ written c.self.inside.links.len c.take_hand.new.links c.self.inside.links.items (search rules)) (sym c.in-Some.ensures.out) c.in-Some.ensures.some c.in-Some.ensures.messages c.divert_from.ensures.links c.divert_from.ensures.table)
      (live_from c.self.inside.own c.self.inside.peer c.self.inside.unsure c.self.inside.accepted.items c.self.inside.gone.items c.self.inside.table.links _ _ (search rules) c.self.invariant.3),
)

pub invariant_of-self-in-None : goal.invariant_of-self-in-None
invariant_of-self-in-None c =
    (few_written c.self.inside.links.len _ c.take_hand.new.links c.self.inside.links.items (search rules) (omega (arith, c.self.invariant.0, c.self.inside.links.ok.0)), c.self.invariant.1, c.self.invariant.2, live_kept c.self.inside.own c.self.inside.peer c.self.inside.unsure c.self.inside.accepted.items c.self.inside.gone.items c.self.inside.table.links _ c.take_hand.new.links _ (written c.self.inside.links.len c.take_hand.new.links c.self.inside.links.items (search rules)) c.in-None.ensures.none (live_from c.self.inside.own c.self.inside.peer c.self.inside.unsure c.self.inside.accepted.items c.self.inside.gone.items c.self.inside.table.links _ _ (search rules) c.self.invariant.3))
