use Rattle.std.proofs.Common.{◌<◌, Some, ◌∙◌, ◌∷◌, [], ap, map, get_or, set, subst₂, sym, arith}
use Rattle.std.specs.FinMap as finite
use Rattle.tick_wheel.specs.Lists.{without}
use Rattle.tick_wheel.specs.Slots.{IsWheel}
use Rattle.tick_wheel.specs.Table.{deadlines_of}
use Rattle.tick_wheel.specs.Turning.{Turning}
use Rattle.tick_wheel.proofs.TableLemmas.{deadlines_of-set}
use Rattle.tick_wheel.proofs.Keeping.{IsWheel-set}
use Rattle.tick_wheel.proofs.Wheel.set.Goals as goal

pub returns-clause-deadlines : goal.returns-clause-deadlines
returns-clause-deadlines c =
    let table = c.self.inside.deadlines.items in
    ap (λ k. deadlines_of (set table k (Some c.args.deadline))) c.from.ensures
    ∙ deadlines_of-set table c.place-place.result c.args.deadline (omega (arith, c.place-place.ensures.in_range, c.self.invariant.0.len))
    ∙ (λ i. finite.insert (c.self.view_is i).deadlines (c.place-place.ensures.timer i) c.args.deadline)

pub invariant_of-self : goal.invariant_of-self
invariant_of-self c =
    let table = c.self.inside.deadlines.items in
    let lists = c.self.inside.lists in
    let place = c.place-place.result in
    let later : c.self.inside.clock < c.args.deadline = omega (arith, c.requires, ap (λ (t : Turning). t.clock) c.self.view_is) in
    let put = c.put.ensures ∙ ap (λ slot. set (map (without place) lists) slot (place ∷ without place (get_or lists slot []))) c.slot_of.ensures.value in
    (subst₂ (IsWheel c.self.inside.clock) (ap (λ k. set table k (Some c.args.deadline)) (sym c.from.ensures)) (sym put) (IsWheel-set c.self.inside.clock table lists c.self.invariant.0 place c.place-place.ensures.in_range c.args.deadline later), c.self.invariant.1)
