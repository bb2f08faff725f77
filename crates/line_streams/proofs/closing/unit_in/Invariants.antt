-- None of the events so far is a unit.
use Rattle.std.proofs.Common.{◌≡◌, [], take}
use Rattle.line_streams.specs.Capturing.{units_of}
use Rattle.line_streams.proofs.closing.unit_in.Given as goal

abbrev pub invariant-loop-event : goal.invariant-loop-event
invariant-loop-event l = units_of (take l.event-index l.events) ≡ []
