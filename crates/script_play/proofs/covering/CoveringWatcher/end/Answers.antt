use Rattle.script_play.specs.Seen.{turns_run}
use Rattle.script_play.proofs.CoveredPlays.{covering_end}
use Rattle.script_play.proofs.covering.CoveringWatcher.end.Goals as goal

pub returns : goal.returns
returns c = λ ns t is of known. covering_end ns t c.args.ended.now.done _ is.turn (c.in_ok-take.ensures (turns_run ns) known)
