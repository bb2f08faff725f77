use Rattle.std.proofs.Common.{◌∙◌}
use Rattle.line_play.specs.SetDoing.{stood}
use Rattle.line_play.proofs.SetTelling.{answered_as, unsure_line}
use Rattle.line_play.proofs.set.state.SetState.tell_unsure.Goals as goal

pub returns : goal.returns
returns g c =
    answered_as c.say_text.result _ _ (stood c.args.self.now) _ _ (c.in_ok-format.ensures.ok ∙ unsure_line c.args.self.now.tender _ _ c.unsure-unsure.ensures c.set.ensures) c.say_text.ensures
