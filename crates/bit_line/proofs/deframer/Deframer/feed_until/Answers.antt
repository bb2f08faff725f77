use Rattle.bit_line.proofs.deframer.Deframer.feed_until.Goals as goal

pub returns-clause-before : goal.returns-clause-before
returns-clause-before c = rw (← c.self.view_is) c.feed_until.ensures.before
