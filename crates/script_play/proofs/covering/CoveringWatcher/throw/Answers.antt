use Rattle.script_play.proofs.CoveredPlays.{covering_throw}
use Rattle.script_play.proofs.covering.CoveringWatcher.throw.Goals as goal

pub returns : goal.returns
returns c = λ ns known. covering_throw ns (record { me = c.args._me; state = c.args._state; item = c.args._item.now }) c.args.self.now.coverage known
