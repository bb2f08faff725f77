use Rattle.std.proofs.Common.{None, ◌∙◌, ap, set, subst₂, sym, arith}
use Rattle.std.specs.FinMap as finite
use Rattle.tick_wheel.specs.Slots.{IsWheel}
use Rattle.tick_wheel.specs.Table.{deadlines_of}
use Rattle.tick_wheel.proofs.TableLemmas.{deadlines_of-clear}
use Rattle.tick_wheel.proofs.Keeping.{IsWheel-reset}
use Rattle.tick_wheel.proofs.Wheel.reset.Goals as goal

pub returns-clause-deadlines : goal.returns-clause-deadlines
returns-clause-deadlines c =
    let table = c.self.inside.deadlines.items in
    ap (λ k. deadlines_of (set table k None)) c.from.ensures
    ∙ deadlines_of-clear table c.place-place.result (omega (arith, c.place-place.ensures.in_range, c.self.invariant.0.len))
    ∙ (λ i. finite.remove (c.self.view_is i).deadlines (c.place-place.ensures.timer i))

pub invariant_of-self : goal.invariant_of-self
invariant_of-self c =
    let table = c.self.inside.deadlines.items in
    let place = c.place-place.result in
    (subst₂ (IsWheel c.self.inside.clock) (ap (λ k. set table k None) (sym c.from.ensures)) (sym c.take_out.ensures) (IsWheel-reset c.self.inside.clock table c.self.inside.lists c.self.invariant.0 place c.place-place.ensures.in_range), c.self.invariant.1)
