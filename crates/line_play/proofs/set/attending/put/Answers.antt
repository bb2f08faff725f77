use Rattle.line_play.proofs.set.attending.put.Goals as goal

pub returns-then-put : goal.returns-then-put
returns-then-put c = c.put.ensures c.if-put.true
