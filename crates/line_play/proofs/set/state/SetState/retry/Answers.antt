use Rattle.std.proofs.Common.{ap, ◌∙◌}
use Rattle.line_play.specs.SetDoing.{stood, marked}
use Rattle.line_play.proofs.SetQueues.{tries_as}
use Rattle.line_play.proofs.set.state.SetState.retry.Goals as goal

pub returns : goal.returns
returns g c =
    tries_as c.try_send.result _ _ _ _ _ _ (stood c.mark_with.new.self) _ (stood c.try_send.new.self) _ _ c.as_str-2.ensures.value c.as_slice.ensures.value c.is_patient-patient.ensures
    (c.in_ok-mark_with.ensures ∙ ap (λ m. marked m (stood c.args.self.now)) c.as_str.ensures.value) c.try_send.ensures
