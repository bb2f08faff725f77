use Rattle.std.proofs.Common.{sym, ap, ◌∙◌}
use Rattle.std.specs.Prelude.{is_some}
use Rattle.script_play.proofs.Charting.{none_part, effect_more, all_effects}
use Rattle.script_play.proofs.charts.Chart.enter_receivers.Goals as goal

pub loop-place-init : goal.loop-place-init
loop-place-init c = none_part c.args.self.now

pub loop-place-preserved : goal.loop-place-preserved
loop-place-preserved c =
    effect_more c.args.set.now c.args.me c.args.lost.now c.args.effects.now c.loop-place.place _ c.is_some-is_lost.result c.args.self.now _ _ c.loop-place-test.true
    (sym c.index-effects-place.is) (c.is_some-is_lost.ensures ∙ ap (λ o. is_some o) c.loss_at.ensures) c.loop-place.invariant c.in_ok-enter_receiver.ensures

pub returns : goal.returns
returns c =
    all_effects c.args.set.now c.args.me c.args.lost.now c.args.effects.now c.loop-place.place c.args.self.now _ c.loop-place-test.false c.loop-place.invariant
