use Rattle.std.proofs.Common.{refl}
use Rattle.line_play.specs.SetDoing.{stood}
use Rattle.line_play.proofs.SetTelling.{answered_as}
use Rattle.line_play.proofs.set.state.SetState.agree.Goals as goal

pub returns : goal.returns
returns g c = answered_as c.say_text.result _ _ (stood c.args.self.now) _ _ c.in_ok-format.ensures.ok c.say_text.ensures
