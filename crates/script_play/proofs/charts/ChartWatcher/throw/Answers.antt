use Rattle.script_play.proofs.Charting.{charts_throw}
use Rattle.script_play.proofs.charts.ChartWatcher.throw.Goals as goal

pub returns : goal.returns
returns c = λ ns known. charts_throw c.args._set.now ns (record { me = c.args._me; state = c.args._state; item = c.args._item.now }) c.args.self.now known
