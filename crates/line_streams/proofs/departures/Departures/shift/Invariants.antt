-- Waiting lines have been written so far.
use Rattle.std.proofs.Common.{length}
use Rattle.line_filter.specs.Reporting.{MovesOn}
use Rattle.line_streams.specs.Departing.{stand_in}
use Rattle.line_streams.proofs.departures.Departures.shift.Given as goal

abbrev pub invariant-loop-count : goal.invariant-loop-count
invariant-loop-count l = MovesOn (stand_in l.initial.self.outlet) (stand_in l.self.outlet)

abbrev pub decreases-loop-count : goal.decreases-loop-count
decreases-loop-count l = length l.self.outlet.backlog
