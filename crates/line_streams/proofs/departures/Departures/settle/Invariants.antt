-- Nothing more was lost so far.
use Rattle.std.proofs.Common.{◌≡◌}
use Rattle.line_streams.proofs.departures.Departures.settle.Given as goal

abbrev pub invariant-loop-wait : goal.invariant-loop-wait
invariant-loop-wait g l = l.self.outlet.lost ≡ l.fn.self.outlet.lost
