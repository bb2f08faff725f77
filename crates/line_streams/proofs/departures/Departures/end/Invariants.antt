-- The reports so far.
use Rattle.line_streams.specs.Departing.{EndsOn}
use Rattle.line_streams.proofs.departures.Departures.end.Given as goal

abbrev pub invariant-loop-wait : goal.invariant-loop-wait
invariant-loop-wait g l = EndsOn l.now l.fn.self.outlet l.self.outlet
