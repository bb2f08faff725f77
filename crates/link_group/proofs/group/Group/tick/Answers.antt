use Rattle.std.proofs.Common.{rules, refl, ap, ◌∙◌, arith, List, map}
use Rattle.link_group.proofs.ByLinks.{written, few_written}
use Rattle.link_group.specs.declared.link.Link.{Link}
use Rattle.link_group.specs.Ticking.{roomy}
use Rattle.link_group.specs.Ticks.{after_ticks}
use Rattle.link_group.proofs.Live.{over, live_from, live_roomy, live_lacking, ticked_is, live_ticked}
use Rattle.link_group.proofs.Room.{no_room, room_on}
use Rattle.link_group.proofs.group.Group.tick.Goals as goal

pub returns-in-Err-clause-err : goal.returns-in-Err-clause-err
returns-in-Err-clause-err c =
    no_room c.args.self.now _ _ c.make_room_all.new.links _ c.self.inside.own c.self.inside.peer c.self.inside.unsure c.self.inside.accepted.items c.self.inside.gone.items c.self.inside.table.links
    refl c.in-Err.ensures.err (written c.self.inside.links.len c.make_room_all.new.links c.self.inside.links.items (search rules)) (search rules)

pub pass_all-due-requires-clause-room : goal.pass_all-due-requires-clause-room
pass_all-due-requires-clause-room c = room_on _ c.make_room_all.new.links c.as_mut_slice-2.result.now c.in-Ok.ensures.ok
    (c.as_mut_slice-2.ensures.value ∙ written c.self.inside.links.len c.make_room_all.new.links c.self.inside.links.items (search rules))

pub invariant_of-self : goal.invariant_of-self
invariant_of-self c = (
  few_written c.self.inside.links.len _ c.make_room_all.new.links c.self.inside.links.items (search rules) (omega (arith, c.self.invariant.0, c.self.inside.links.ok.0)),
  c.self.invariant.1,
  c.self.invariant.2,
  live_lacking (over c.self.inside.own c.self.inside.peer c.self.inside.unsure c.self.inside.accepted.items c.self.inside.gone.items c.self.inside.table.links _) _
      (no_room (over c.self.inside.own c.self.inside.peer c.self.inside.unsure c.self.inside.accepted.items c.self.inside.gone.items c.self.inside.table.links _) _ _ c.make_room_all.new.links _ c.self.inside.own c.self.inside.peer c.self.inside.unsure c.self.inside.accepted.items c.self.inside.gone.items c.self.inside.table.links
      refl c.in-Err.ensures.err (written c.self.inside.links.len c.make_room_all.new.links c.self.inside.links.items (search rules)) refl)
      (live_from c.self.inside.own c.self.inside.peer c.self.inside.unsure c.self.inside.accepted.items c.self.inside.gone.items c.self.inside.table.links _ _ (search rules) c.self.invariant.3),
)

pub invariant_of-self-in-Some : goal.invariant_of-self-in-Some
invariant_of-self-in-Some c = (
  few_written c.self.inside.links.len _ c.make_room_all.new.links c.self.inside.links.items (search rules) (omega (arith, c.self.invariant.0, c.self.inside.links.ok.0)),
  c.self.invariant.1,
  c.self.invariant.2,
  live_roomy (over c.self.inside.own c.self.inside.peer c.self.inside.unsure c.self.inside.accepted.items c.self.inside.gone.items c.self.inside.table.links _) _ (ap (over c.self.inside.own c.self.inside.peer c.self.inside.unsure c.self.inside.accepted.items c.self.inside.gone.items c.self.inside.table.links) ((written c.self.inside.links.len c.make_room_all.new.links c.self.inside.links.items (search rules)) ∙ c.in-Ok.ensures.ok)) (live_from c.self.inside.own c.self.inside.peer c.self.inside.unsure c.self.inside.accepted.items c.self.inside.gone.items c.self.inside.table.links _ _ (search rules) c.self.invariant.3),
)

pub invariant_of-self-2 : goal.invariant_of-self-2
invariant_of-self-2 c = (
  few_written c.self.inside.links.len _ c.see_each.new.links _ (search rules) (omega (arith, c.self.invariant.0, c.self.inside.links.ok.0)),
  c.self.invariant.1,
  c.self.invariant.2,
  live_ticked c.args.ticks (over c.self.inside.own c.self.inside.peer c.self.inside.unsure c.self.inside.accepted.items c.self.inside.gone.items c.self.inside.table.links _) _
      (ticked_is c.args.ticks c.self.inside.own c.self.inside.peer c.self.inside.unsure c.self.inside.accepted.items c.self.inside.gone.items c.self.inside.table.links _ _ c.make_room_all.new.links c.as_mut_slice-2.result.now c.pass_all-due.new.links c.as_mut_slice-3.result.now c.see_each.new.links _
      (c.as_mut_slice-2.ensures.value ∙ written c.self.inside.links.len c.make_room_all.new.links c.self.inside.links.items (search rules)) (c.as_mut_slice-3.ensures.value ∙ written c.self.inside.links.len c.pass_all-due.new.links _ (search rules)) (written c.self.inside.links.len c.see_each.new.links _ (search rules))
      c.in-Ok.ensures.ok c.pass_all-due.ensures.links c.see_each.ensures.links c.see_each.ensures.table)
      (live_from c.self.inside.own c.self.inside.peer c.self.inside.unsure c.self.inside.accepted.items c.self.inside.gone.items c.self.inside.table.links _ _ (search rules) c.self.invariant.3),
)

pub returns-clause-ok : goal.returns-clause-ok
returns-clause-ok c =
    ticked_is c.args.ticks c.self.inside.own c.self.inside.peer c.self.inside.unsure c.self.inside.accepted.items c.self.inside.gone.items c.self.inside.table.links _ c.self.inside.links.items c.make_room_all.new.links c.as_mut_slice-2.result.now c.pass_all-due.new.links c.as_mut_slice-3.result.now c.see_each.new.links _
    (c.as_mut_slice-2.ensures.value ∙ written c.self.inside.links.len c.make_room_all.new.links c.self.inside.links.items (search rules)) (c.as_mut_slice-3.ensures.value ∙ written c.self.inside.links.len c.pass_all-due.new.links _ (search rules)) (written c.self.inside.links.len c.see_each.new.links _ (search rules))
    (c.in-Ok.ensures.ok ∙ ap (λ (ks : List Link). map roomy ks) c.as_mut_slice.ensures.value) c.pass_all-due.ensures.links c.see_each.ensures.links c.see_each.ensures.table ∙ ap (after_ticks c.args.ticks) c.self.view_is
