use Rattle.mtp2_text.proofs.monitors.Goals as goal

pub returns-clause-utf8 : goal.returns-clause-utf8
returns-clause-utf8 c = c.load.ensures.utf8
