use Rattle.std.proofs.Common.{sym, ap, ◌∙◌, get_or, List, ℕ, []}
use Rattle.std.specs.List.{slice_get}
use Rattle.tick_wheel.proofs.Tables.{first-is}
use Rattle.tick_wheel.proofs.slots.SlotLists.first.Goals as goal

pub returns : goal.returns
returns c =
    let links = c.self.inside.links in
    c.item_behind.ensures
    ∙ sym (first-is links.next.items links.previous.items c.self.invariant c.args.slot c.requires)
    ∙ ap (λ (ls : List (List ℕ)). slice_get (get_or ls c.args.slot []) 0) c.self.view_is
