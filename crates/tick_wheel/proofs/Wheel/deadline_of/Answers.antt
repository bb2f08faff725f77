use Rattle.std.proofs.Common.{None, get_or, sym, ap, ◌∙◌, arith}
use Rattle.std.proofs.lemmas.List.{get_or_default}
use Rattle.std.specs.FinMap as finite
use Rattle.tick_wheel.proofs.Gathering.{any-place}
use Rattle.tick_wheel.proofs.Wheel.deadline_of.Goals as goal

pub returns-clause-value : goal.returns-clause-value
returns-clause-value c =
    c.index.ensures
    ∙ get_or_default c.self.inside.deadlines.items c.from.result c.index.result.now None (omega (arith, c.from.ensures, c.place.ensures.in_range, c.self.invariant.0.len))
    ∙ ap (λ k. get_or c.self.inside.deadlines.items k None) c.from.ensures
    ∙ sym (any-place c.self.inside.deadlines.items c.place.result)
    ∙ (λ i. finite.get (c.self.view_is i).deadlines (c.place.ensures.timer i))
