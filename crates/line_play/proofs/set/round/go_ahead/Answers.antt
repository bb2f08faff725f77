use Rattle.line_play.proofs.SetRounds.{grows_none, grows_more}
use Rattle.line_play.proofs.set.round.go_ahead.Goals as goal

pub loop-octet-init : goal.loop-octet-init
loop-octet-init g c = grows_none _

pub loop-octet-preserved : goal.loop-octet-preserved
loop-octet-preserved g c = grows_more _ _ _ _ _ c.loop-octet.invariant c.give.ensures
