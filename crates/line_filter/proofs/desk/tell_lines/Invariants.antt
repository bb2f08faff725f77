-- The lines so far were reported.
use Rattle.std.proofs.Common.{take}
use Rattle.std.specs.List.{flat_map}
use Rattle.line_filter.specs.Orders.{listed}
use Rattle.line_filter.specs.Reporting.{TellsLines}
use Rattle.line_filter.proofs.desk.tell_lines.Given as goal

abbrev pub invariant-loop-line : goal.invariant-loop-line
invariant-loop-line g l =
    TellsLines (g.P.Reports.stand l.initial.reports) (g.P.Reports.stand l.reports) (flat_map (listed l.now l.order) (take l.line-index l.lines))
