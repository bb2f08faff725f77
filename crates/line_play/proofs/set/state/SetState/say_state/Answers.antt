use Rattle.std.proofs.Common.{ap, ◌∙◌}
use Rattle.line_play.specs.SetDoing.{stood}
use Rattle.line_play.specs.SetShowing.{state_text}
use Rattle.line_play.proofs.SetTelling.{answered_as}
use Rattle.line_play.proofs.set.state.SetState.say_state.Goals as goal

pub returns : goal.returns
returns g c = answered_as c.say_text.result _ _ (stood c.args.self.now) _ _ (c.in_ok-format.ensures.ok ∙ ap (state_text c.args.process.now c.args.link) c.in_ok-text.ensures) c.say_text.ensures
