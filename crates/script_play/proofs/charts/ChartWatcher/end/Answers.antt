use Rattle.script_seen.specs.Watched.{turns_in}
use Rattle.script_play.proofs.Charting.{charts_end}
use Rattle.script_play.proofs.charts.ChartWatcher.end.Goals as goal

pub returns : goal.returns
returns c = λ ns t is of known. charts_end c.args.set.now ns t _ (c.in_ok-draw.ensures (turns_in ns) t is known)
