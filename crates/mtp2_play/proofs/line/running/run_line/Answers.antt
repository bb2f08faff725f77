use Rattle.mtp2_play.proofs.Known.{named_so}
use Rattle.mtp2_play.proofs.Speaking.{over_set, begun_over}
use Rattle.mtp2_play.proofs.line.running.run_line.Goals as goal

pub returns-in-Ok-clause-spoke : goal.returns-in-Ok-clause-spoke
returns-in-Ok-clause-spoke g c zero = over_set _ c.args.end.now _ _ _ c.in-Ok.ensures.ok (c.speak.ensures.spoke zero)

pub returns-in-Ok-clause-begun : goal.returns-in-Ok-clause-begun
returns-in-Ok-clause-begun g c = begun_over _ c.args.end.now _ _ _ c.in-Ok.ensures.ok c.speak.ensures.begun

pub returns-in-Err-clause-refused : goal.returns-in-Err-clause-refused
returns-in-Err-clause-refused g c = named_so _ _ _ _ _ c.in-Err.status c.set_word.ensures c.in-Err.ensures.refused
