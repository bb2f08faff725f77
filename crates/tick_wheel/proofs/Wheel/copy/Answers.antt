use Rattle.std.proofs.Common.{◌≡◌, sym, subst₂, ◌∙◌}
use Rattle.tick_wheel.specs.Table.{deadlines_of}
use Rattle.tick_wheel.specs.Slots.{IsWheel}
use Rattle.tick_wheel.proofs.Wheel.copy.Goals as goal

pub invariant_of-result : goal.invariant_of-result
invariant_of-result c =
    let table : c.in_ok-deadlines.deadlines.items ≡ c.self.inside.deadlines.items = c.in_ok-deadlines.ensures.items ∙ c.deref.ensures.value in
    (subst₂ (IsWheel c.self.inside.clock) (sym table) (sym c.in_ok-lists.ensures) c.self.invariant.0, c.in_ok-due.ensures.room)

pub returns : goal.returns
returns c =
    let table : c.in_ok-deadlines.deadlines.items ≡ c.self.inside.deadlines.items = c.in_ok-deadlines.ensures.items ∙ c.deref.ensures.value in
    let due : c.in_ok-due.due.items ≡ c.self.inside.due.items = c.in_ok-due.ensures.items ∙ c.deref-2.ensures.value in
    (λ i. record { clock = c.self.inside.clock; deadlines = deadlines_of (table i); due = due i; looked = c.self.inside.looked }) ∙ c.self.view_is
