use Rattle.std.proofs.Common.{refl, sym, nat_le, ◌∙◌}
use Rattle.line_play.proofs.SetGiven.{none_past, all_past, some_past}
use Rattle.line_play.proofs.set.given.any_past.Goals as goal

pub loop-link-init : goal.loop-link-init
loop-link-init c = refl

pub loop-link-preserved : goal.loop-link-preserved
loop-link-preserved c =
    none_past (λ l. nat_le c.args.count l) c.args.links.now c.loop-link.link-index _ c.loop-link-test.true c.loop-link.invariant (sym c.is_past.ensures ∙ c.if-is_past.false)

pub returns-then-is_past : goal.returns-then-is_past
returns-then-is_past c =
    sym (some_past (λ l. nat_le c.args.count l) c.args.links.now c.loop-link.link-index _ c.loop-link-test.true (sym c.is_past.ensures ∙ c.if-is_past.true))

pub returns : goal.returns
returns c = sym (all_past (λ l. nat_le c.args.count l) c.args.links.now c.loop-link.link-index c.loop-link-test.false c.loop-link.invariant)
