use Rattle.line_streams.proofs.Ends.{far_on}
use Rattle.line_streams.proofs.departures.Departures.report.Goals as goal

pub returns : goal.returns
returns c = record {
  middle = c.shift.new.self.outlet;
  moves = far_on _ _ _ c.has_failed.ensures.sent c.has_failed.ensures.backlog c.has_failed.ensures.lost c.shift.ensures;
  tells = c.in_ok-tell.ensures;
}
