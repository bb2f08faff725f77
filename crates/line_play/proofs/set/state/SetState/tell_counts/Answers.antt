use Rattle.std.proofs.Common.{rules}
use Rattle.line_filter.proofs.Reporting.{tells_none}
use Rattle.line_play.specs.SetDoing.{stood}
use Rattle.line_play.specs.SetShowing.{count_told}
use Rattle.line_play.proofs.SetTelling.{counts_more}
use Rattle.line_play.proofs.set.state.SetState.tell_counts.Goals as goal

pub loop-measure-preserved : goal.loop-measure-preserved
loop-measure-preserved g c =
    counts_more (count_told (stood c.args.self.now) c.args.link) c.args.all.now c.loop-measure.measure-index _ (g.P.Reports.stand c.args.reports.now)
    (g.P.Reports.stand c.loop-measure.reports) (g.P.Reports.stand c.tell_measure.new.reports) c.loop-measure-test.true (search rules) c.loop-measure.invariant c.in_ok-tell_measure.ensures

pub loop-measure-init : goal.loop-measure-init
loop-measure-init g c = tells_none _
