use Rattle.std.proofs.Common.{rules, refl, arith, slice_set, sym}
use Rattle.link_group.specs.Doing.{Listened}
use Rattle.link_group.proofs.Numbered.{here, at_link}
use Rattle.link_group.proofs.ByLinks.{by_link, written, few_written}
use Rattle.link_group.proofs.Listing.{between_is}
use Rattle.link_group.proofs.Live.{over, heard_by_link}
use Rattle.link_group.proofs.group.Group.line_in.Goals as goal

pub returns-clause-ok : goal.returns-clause-ok
returns-clause-ok c =
    by_link (Listened c.args.octets.now c.listen-taken.result) c.args.link c.args.self.now _ c.self.inside.links.items (slice_set c.self.inside.links.items c.args.link c.listen-taken.new.self) c.as_mut_slice.result.now c.see.new.links _ c.self.inside.own c.self.inside.peer c.self.inside.unsure c.self.inside.accepted.items c.self.inside.gone.items c.listen-taken.new.gone.items c.self.inside.table.links c.see.new.table.links (sym c.self.view_is) refl
    (at_link (Listened c.args.octets.now c.listen-taken.result) c.args.link c.self.inside.links.items _ c.listen-taken.new.self (here c.self.inside.links.items c.args.link c.index_mut.result.now (search rules) c.index_mut.ensures.value) c.listen-taken.ensures.did) c.as_mut_slice.ensures.value (written c.self.inside.links.len c.see.new.links _ (search rules)) c.see.ensures.links c.see.ensures.table c.listen-taken.ensures.gone

pub invariant_of-self : goal.invariant_of-self
invariant_of-self c = (
  few_written c.self.inside.links.len _ c.see.new.links _ (search rules) (omega (arith, c.self.invariant.0, c.self.inside.links.ok.0)),
  c.self.invariant.1,
  c.self.invariant.2,
  heard_by_link c.args.octets.now c.listen-taken.result c.args.link (over c.self.inside.own c.self.inside.peer c.self.inside.unsure c.self.inside.accepted.items c.self.inside.gone.items c.self.inside.table.links _) _
      (by_link (Listened c.args.octets.now c.listen-taken.result) c.args.link _ _ c.self.inside.links.items (slice_set c.self.inside.links.items c.args.link c.listen-taken.new.self) c.as_mut_slice.result.now c.see.new.links _ c.self.inside.own c.self.inside.peer c.self.inside.unsure c.self.inside.accepted.items c.self.inside.gone.items c.listen-taken.new.gone.items c.self.inside.table.links c.see.new.table.links refl refl
      (at_link (Listened c.args.octets.now c.listen-taken.result) c.args.link c.self.inside.links.items _ c.listen-taken.new.self (here c.self.inside.links.items c.args.link c.index_mut.result.now (search rules) c.index_mut.ensures.value) c.listen-taken.ensures.did) c.as_mut_slice.ensures.value (written c.self.inside.links.len c.see.new.links _ (search rules)) c.see.ensures.links c.see.ensures.table c.listen-taken.ensures.gone)
      c.self.invariant.3,
)

pub returns-clause-gone : goal.returns-clause-gone
returns-clause-gone c = between_is (Listened c.args.octets.now c.listen-taken.result) c.args.link c.args.self.now _ (returns-clause-ok c)
