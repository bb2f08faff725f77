use Rattle.script_play.proofs.Throwing.{counts_end}
use Rattle.script_play.proofs.thrown.ThrownWatcher.end.Goals as goal

pub returns : goal.returns
returns c = λ ns t is of known. counts_end ns t c.args.self.now known
