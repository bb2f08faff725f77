use Rattle.line_play.specs.SetDoing.{stood}
use Rattle.line_play.proofs.SetTelling.{answered_as, count_line}
use Rattle.line_play.proofs.set.state.SetState.tell_measure.Goals as goal

pub returns : goal.returns
returns g c =
    answered_as c.say_text.result _ _ (stood c.args.self.now) _ _
    (count_line _ _ _ c.args.link _ _ c.word-name.ensures c.counted-count.ensures c.in_ok-format.ensures.ok) c.say_text.ensures
