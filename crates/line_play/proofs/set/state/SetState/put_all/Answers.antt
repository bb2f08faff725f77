use Rattle.std.proofs.Common.{arith, refl, sym, append-nil}
use Rattle.line_play.specs.SetExposing.{series_lines}
use Rattle.line_play.specs.SetSeries.{plain_series}
use Rattle.line_play.proofs.SetExposing.{series_next, series_all}
use Rattle.line_play.proofs.set.state.SetState.put_all.Goals as goal

pub loop-series-init : goal.loop-series-init
loop-series-init c = sym (append-nil _)

pub loop-series-preserved : goal.loop-series-preserved
loop-series-preserved c =
    series_next plain_series (series_lines c.args.self.now.tender) c.args.all.now c.loop-series.series-index _ _ _ _ _ c.loop-series-test.true refl
    c.loop-series.invariant c.in_ok-put_series.ensures

pub returns : goal.returns
returns c =
    series_all plain_series (series_lines c.args.self.now.tender) c.args.all.now c.loop-series.series-index _ _ (omega (arith, c.loop-series-test.false)) c.loop-series.invariant
