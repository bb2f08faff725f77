-- The octets read and written and the reports so far.
use Rattle.std.proofs.Common.{true}
use Rattle.line_filter.specs.Desks.{state_of}
use Rattle.line_filter.specs.Filters.{Served}
use Rattle.line_filter.proofs.filter.run_line.Given as goal

abbrev pub invariant-loop-read : goal.invariant-loop-read
invariant-loop-read g l =
    Served g.T.LineTerminal.acts l.bits l.ahead l.fn.desk.count (state_of g.O.Orders.left l.fn.desk) true l.desk.count (state_of g.O.Orders.left l.desk)
    (record { read = g.R.Read.remaining l.fn.reader; written = g.W.Write.contents l.fn.writer; told = g.P.Reports.stand l.fn.desk.reports })
    (record { read = g.R.Read.remaining l.reader; written = g.W.Write.contents l.writer; told = g.P.Reports.stand l.desk.reports })
