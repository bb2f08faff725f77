use Rattle.line_play.proofs.set.attending.take_octets.Goals as goal

pub returns : goal.returns
returns g c = rw (← c.in_ok-copy.ensures.items) c.take_send.ensures
