use Rattle.line_play.specs.SetDoing.{stood}
use Rattle.line_play.proofs.SetTelling.{answered_as, held_is, sent_is, held_line}
use Rattle.line_play.proofs.set.state.SetState.tell_held.Goals as goal

pub returns : goal.returns
returns g c =
    answered_as c.say_text.result _ _ (stood c.args.self.now) _ _
    (held_line c.args.self.now.tender c.args.link _ _ _ (held_is _ _ _ _ _ c.unwrap_or-held.ensures c.held.ensures c.set.ensures)
    (sent_is _ _ _ _ _ c.unwrap_or-sent.ensures c.sent.ensures c.set-2.ensures) c.in_ok-format.ensures.ok)
    c.say_text.ensures
