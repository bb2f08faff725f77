use Rattle.std.proofs.Common.{rules, refl}
use Rattle.line_filter.specs.Orders.{listed}
use Rattle.line_filter.proofs.Reporting.{tells_none, tells_one}
use Rattle.line_filter.proofs.Telling.{lines_more}
use Rattle.line_filter.proofs.desk.tell_lines.Goals as goal

pub loop-line-init : goal.loop-line-init
loop-line-init g c = tells_none (g.P.Reports.stand c.args.reports.now)

pub loop-line-preserved : goal.loop-line-preserved
loop-line-preserved g c =
    lines_more (listed c.args.now c.args.order.now) c.args.lines.now c.loop-line.line-index c.line-item.result
    (listed c.args.now c.args.order.now c.line-item.result) _ (g.P.Reports.stand c.loop-line.reports) _
    (search rules) (search rules) refl (search rules) (tells_one _ _ _ _ _ (search rules))
