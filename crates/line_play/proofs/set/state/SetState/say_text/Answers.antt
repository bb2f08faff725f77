use Rattle.line_play.specs.SetDoing.{stood}
use Rattle.line_play.proofs.SetTelling.{answered_as}
use Rattle.line_play.proofs.set.state.SetState.say_text.Goals as goal

pub returns : goal.returns
returns g c = answered_as c.say.result _ _ (stood c.args.self.now) _ _ c.as_str.ensures.value c.say.ensures
