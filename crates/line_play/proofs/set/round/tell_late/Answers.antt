use Rattle.line_play.proofs.SetRounds.{none_late}
use Rattle.line_play.proofs.set.round.tell_late.Goals as goal

pub returns-then-late-eq0 : goal.returns-then-late-eq0
returns-then-late-eq0 g c = none_late _ c.args.tender.now.ticks c.args.late c.if-late-eq0.true
