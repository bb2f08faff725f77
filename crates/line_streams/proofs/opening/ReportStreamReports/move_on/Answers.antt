use Rattle.std.proofs.lemmas.Result.{on_ok_weaker}
use Rattle.line_streams.proofs.Ends.{moved_to_fifo}
use Rattle.line_streams.proofs.opening.ReportStreamReports.move_on.Goals as goal

pub returns-in-Fifo-clause-moves : goal.returns-in-Fifo-clause-moves
returns-in-Fifo-clause-moves g c =
    on_ok_weaker c.move_on.result
    (λ far. moved_to_fifo g.E.Write.contents c.args.self.now c.in-Fifo.departures c.move_on.new.self c.in-Fifo.is far.moves) c.move_on.ensures
