use Rattle.std.proofs.Common.{ap, ◌∙◌}
use Rattle.std.proofs.lemmas.Result.{on_ok_weaker}
use Rattle.script_play.proofs.Charting.{all_enter}
use Rattle.script_play.proofs.charts.Chart.enter_all.Goals as goal

pub returns : goal.returns
returns c =
    on_ok_weaker c.enter_receivers.result (λ others o ran.
    all_enter c.args.set.now c.args.ended.now _ _ _ c.args.self.now _ _ c.enter_receivers.new.self
    (ap (λ x. x.sender) (c.input.ensures.value ∙ ap (λ t. t.input) c.job.ensures)) c.deref.ensures.0 c.effects.ensures.value c.in_ok-enter.ensures
    c.in_ok-enter_sender.ensures others o ran) c.enter_receivers.ensures
