use Rattle.std.proofs.lemmas.Result.{on_ok_weaker}
use Rattle.line_streams.proofs.Ends.{told_to_fifo}
use Rattle.line_streams.proofs.opening.ReportStreamReports.tell.Goals as goal

pub returns-in-Fifo-clause-line : goal.returns-in-Fifo-clause-line
returns-in-Fifo-clause-line g c =
    on_ok_weaker c.report.result
    (λ told. told_to_fifo g.E.Write.contents (record { wait = c.args.wait; octets = c.args.line.now }) c.args.self.now c.in-Fifo.departures c.report.new.self c.in-Fifo.is told) c.report.ensures
