use Rattle.std.proofs.Common.{subst₂, sym, ap, ◌∙◌, ◌+◌, map, set, get_or, List, ℕ, [], ◌∷◌}
use Rattle.tick_wheel.specs.Sizes.{ITEMS}
use Rattle.tick_wheel.specs.Lists.{without}
use Rattle.tick_wheel.specs.Linked.{at, lists_of, IsLinked, in_front, in_front_back}
use Rattle.tick_wheel.proofs.Tables.{IsLinked-put, put-lists}
use Rattle.tick_wheel.proofs.slots.SlotLists.put.Goals as goal

pub invariant_of-self : goal.invariant_of-self
invariant_of-self c =
    let links = c.self.inside.links in
    let node = ITEMS + c.args.slot in
    let next = c.link.ensures.next ∙ ap (λ xs. in_front xs node c.args.item) c.unlink.ensures.next in
    let previous = c.link.ensures.previous ∙ (λ i. in_front_back (c.unlink.ensures.next i) (c.unlink.ensures.previous i) node c.args.item) in
    subst₂ IsLinked (sym next) (sym previous) (IsLinked-put links.next.items links.previous.items c.args.slot c.args.item c.requires.slot c.requires.item c.self.invariant)

pub returns : goal.returns
returns c =
    let links = c.self.inside.links in
    let next = c.link.ensures.next ∙ ap (λ xs. in_front xs (ITEMS + c.args.slot) c.args.item) c.unlink.ensures.next in
    ap (λ xs. lists_of (at xs)) next
    ∙ put-lists links.next.items links.previous.items c.args.slot c.args.item c.requires.slot c.requires.item c.self.invariant
    ∙ ap (λ (ls : List (List ℕ)). set (map (without c.args.item) ls) c.args.slot (c.args.item ∷ without c.args.item (get_or ls c.args.slot []))) c.self.view_is
