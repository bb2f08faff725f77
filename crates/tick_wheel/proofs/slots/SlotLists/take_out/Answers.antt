use Rattle.std.proofs.Common.{subst₂, sym, ap, ◌∙◌, map}
use Rattle.tick_wheel.specs.Lists.{without}
use Rattle.tick_wheel.specs.Linked.{at, lists_of, IsLinked}
use Rattle.tick_wheel.proofs.Tables.{IsLinked-out, out-lists}
use Rattle.tick_wheel.proofs.slots.SlotLists.take_out.Goals as goal

pub invariant_of-self : goal.invariant_of-self
invariant_of-self c =
    let links = c.self.inside.links in
    subst₂ IsLinked (sym c.unlink.ensures.next) (sym c.unlink.ensures.previous) (IsLinked-out links.next.items links.previous.items c.args.item c.requires c.self.invariant)

pub returns : goal.returns
returns c =
    let links = c.self.inside.links in
    ap (λ xs. lists_of (at xs)) c.unlink.ensures.next
    ∙ out-lists links.next.items links.previous.items c.args.item c.requires c.self.invariant
    ∙ ap (map (without c.args.item)) c.self.view_is
