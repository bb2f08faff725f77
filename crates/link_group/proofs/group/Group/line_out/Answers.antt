use Rattle.std.proofs.Common.{rules, refl, arith, slice_set, sym, ap, ◌∙◌, Some}
use Rattle.link_group.specs.Doing.{Spoken}
use Rattle.link_group.proofs.Numbered.{here, at_link, few_set, set_same}
use Rattle.link_group.proofs.ByLinks.{by_link, written, few_written}
use Rattle.link_group.proofs.Listing.{none_left}
use Rattle.link_group.proofs.Live.{over, spoken_by_link, live_kept}
use Rattle.link_group.proofs.group.Group.line_out.Goals as goal

pub returns-in-Ok-clause-ok : goal.returns-in-Ok-clause-ok
returns-in-Ok-clause-ok c =
    by_link (Spoken c.args.units c.in-Ok.octets.items) c.args.link c.args.self.now _ c.self.inside.links.items (slice_set c.self.inside.links.items c.args.link c.speak.new.self) c.as_mut_slice.result.now c.see.new.links _ c.self.inside.own c.self.inside.peer c.self.inside.unsure c.self.inside.accepted.items c.self.inside.gone.items c.self.inside.gone.items c.self.inside.table.links c.see.new.table.links (sym c.self.view_is) refl
    (at_link (Spoken c.args.units c.in-Ok.octets.items) c.args.link c.self.inside.links.items _ c.speak.new.self (here c.self.inside.links.items c.args.link c.index_mut.result.now (search rules) c.index_mut.ensures.value) c.in-Ok.ensures.ok) c.as_mut_slice.ensures.value (written c.self.inside.links.len c.see.new.links _ (search rules)) c.see.ensures.links c.see.ensures.table (sym (none_left c.self.inside.gone.items c.index_mut.result.now c.speak.new.self c.in-Ok.ensures.ok.points (sym c.in-Ok.ensures.ok.sends.kept)))

pub invariant_of-self : goal.invariant_of-self
invariant_of-self c = (
  few_written c.self.inside.links.len _ c.see.new.links _ (search rules) (omega (arith, c.self.invariant.0, c.self.inside.links.ok.0)),
  c.self.invariant.1,
  c.self.invariant.2,
  spoken_by_link c.args.units c.in-Ok.octets.items c.args.link (over c.self.inside.own c.self.inside.peer c.self.inside.unsure c.self.inside.accepted.items c.self.inside.gone.items c.self.inside.table.links _) _
      (by_link (Spoken c.args.units c.in-Ok.octets.items) c.args.link _ _ c.self.inside.links.items (slice_set c.self.inside.links.items c.args.link c.speak.new.self) c.as_mut_slice.result.now c.see.new.links _ c.self.inside.own c.self.inside.peer c.self.inside.unsure c.self.inside.accepted.items c.self.inside.gone.items c.self.inside.gone.items c.self.inside.table.links c.see.new.table.links refl refl
      (at_link (Spoken c.args.units c.in-Ok.octets.items) c.args.link c.self.inside.links.items _ c.speak.new.self (here c.self.inside.links.items c.args.link c.index_mut.result.now (search rules) c.index_mut.ensures.value) c.in-Ok.ensures.ok) c.as_mut_slice.ensures.value (written c.self.inside.links.len c.see.new.links _ (search rules)) c.see.ensures.links c.see.ensures.table (sym (none_left c.self.inside.gone.items c.index_mut.result.now c.speak.new.self c.in-Ok.ensures.ok.points (sym c.in-Ok.ensures.ok.sends.kept))))
      c.self.invariant.3,
)

pub invariant_of-self-in-Err : goal.invariant_of-self-in-Err
invariant_of-self-in-Err c =
    let e = here c.self.inside.links.items c.args.link c.index_mut.result.now (search rules) c.index_mut.ensures.value in (
      few_set _ c.self.inside.links.items c.args.link c.speak.new.self c.self.invariant.0,
      c.self.invariant.1,
      c.self.invariant.2,
      live_kept c.self.inside.own c.self.inside.peer c.self.inside.unsure c.self.inside.accepted.items c.self.inside.gone.items c.self.inside.table.links c.self.inside.links.items (slice_set c.self.inside.links.items c.args.link c.speak.new.self) _ refl (set_same c.self.inside.links.items c.args.link c.speak.new.self (e ∙ ap Some (sym c.in-Err.ensures.err))) c.self.invariant.3,
    )
