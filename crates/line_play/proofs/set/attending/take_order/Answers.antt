use Rattle.std.proofs.Common.{ap, ◌∙◌}
use Rattle.line_play.specs.SetDoing.{stood, marked}
use Rattle.line_play.proofs.SetQueues.{takes_as}
use Rattle.line_play.proofs.set.attending.take_order.Goals as goal

pub returns : goal.returns
returns g c =
    takes_as c.take_given.result _ _ _ _ (stood c.mark_with.new.self) _ (stood c.take_given.new.state) _ _ _ _ (ap (λ o. o.text) c.in_ok-order.ensures)
    (ap (λ o. o.said) c.in_ok-order.ensures)
    (c.in_ok-mark_with.ensures ∙ ap (λ m. marked m (stood c.args.state.now)) (c.as_str.ensures.value ∙ ap (λ o. o.mark) c.in_ok-order.ensures)) c.take_given.ensures
