use Rattle.std.proofs.Common.{ap, ◌∙◌, ◌+◌, get_or, List, ℕ, []}
use Rattle.std.specs.List.{slice_get}
use Rattle.tick_wheel.proofs.Tables.{after-is}
use Rattle.tick_wheel.proofs.slots.SlotLists.after.Goals as goal

pub returns : goal.returns
returns c = λ slot place e.
    let links = c.self.inside.links in
    let here = ap (λ (ls : List (List ℕ)). slice_get (get_or ls slot []) place) c.self.view_is ∙ e in
    c.item_behind.ensures
    ∙ after-is links.next.items links.previous.items c.self.invariant slot place c.args.item here
    ∙ ap (λ (ls : List (List ℕ)). slice_get (get_or ls slot []) (place + 1)) c.self.view_is
