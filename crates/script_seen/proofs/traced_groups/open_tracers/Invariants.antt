-- The tracers so far are fresh.
use Rattle.script_seen.proofs.LinkTraces.{AreFresh}
use Rattle.script_seen.proofs.traced_groups.open_tracers.Given as goal

abbrev pub invariant-loop-link : goal.invariant-loop-link
invariant-loop-link l = AreFresh l.every l.set l._link l.tracers.items
