use Rattle.std.proofs.Common.{rules, refl, arith, slice_set, sym}
use Rattle.link_group.specs.Doing.{Reported}
use Rattle.link_group.proofs.Numbered.{here, at_link}
use Rattle.link_group.proofs.ByLinks.{by_link, written, few_written}
use Rattle.link_group.proofs.Listing.{none_left, same_kept}
use Rattle.link_group.proofs.Live.{over, reported_by_link}
use Rattle.link_group.proofs.group.Group.report.Goals as goal

pub returns-clause-ok : goal.returns-clause-ok
returns-clause-ok c =
    by_link (Reported c.tell-report.result) c.args.link c.args.self.now _ c.self.inside.links.items (slice_set c.self.inside.links.items c.args.link c.tell-report.new.self) c.as_mut_slice.result.now c.see.new.links _ c.self.inside.own c.self.inside.peer c.self.inside.unsure c.self.inside.accepted.items c.self.inside.gone.items c.self.inside.gone.items c.self.inside.table.links c.see.new.table.links (sym c.self.view_is) refl
    (at_link (Reported c.tell-report.result) c.args.link c.self.inside.links.items _ c.tell-report.new.self (here c.self.inside.links.items c.args.link c.index_mut.result.now (search rules) c.index_mut.ensures.value) c.tell-report.ensures) c.as_mut_slice.ensures.value (written c.self.inside.links.len c.see.new.links _ (search rules)) c.see.ensures.links c.see.ensures.table (sym (none_left c.self.inside.gone.items c.index_mut.result.now c.tell-report.new.self c.tell-report.ensures.points (same_kept c.index_mut.result.now c.tell-report.new.self c.tell-report.ensures.same)))

pub invariant_of-self : goal.invariant_of-self
invariant_of-self c = (
  few_written c.self.inside.links.len _ c.see.new.links _ (search rules) (omega (arith, c.self.invariant.0, c.self.inside.links.ok.0)),
  c.self.invariant.1,
  c.self.invariant.2,
  reported_by_link c.tell-report.result c.args.link (over c.self.inside.own c.self.inside.peer c.self.inside.unsure c.self.inside.accepted.items c.self.inside.gone.items c.self.inside.table.links _) _
      (by_link (Reported c.tell-report.result) c.args.link _ _ c.self.inside.links.items (slice_set c.self.inside.links.items c.args.link c.tell-report.new.self) c.as_mut_slice.result.now c.see.new.links _ c.self.inside.own c.self.inside.peer c.self.inside.unsure c.self.inside.accepted.items c.self.inside.gone.items c.self.inside.gone.items c.self.inside.table.links c.see.new.table.links refl refl
      (at_link (Reported c.tell-report.result) c.args.link c.self.inside.links.items _ c.tell-report.new.self (here c.self.inside.links.items c.args.link c.index_mut.result.now (search rules) c.index_mut.ensures.value) c.tell-report.ensures) c.as_mut_slice.ensures.value (written c.self.inside.links.len c.see.new.links _ (search rules)) c.see.ensures.links c.see.ensures.table (sym (none_left c.self.inside.gone.items c.index_mut.result.now c.tell-report.new.self c.tell-report.ensures.points (same_kept c.index_mut.result.now c.tell-report.new.self c.tell-report.ensures.same))))
      c.self.invariant.3,
)
