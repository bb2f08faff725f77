use Rattle.line_play.proofs.set.exposition.put_away.Goals as goal

pub returns : goal.returns
returns c = rw (← c.from.ensures) c.put_one.ensures
