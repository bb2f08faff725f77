-- The events so far happened and are traced.
use Rattle.std.proofs.Common.{take}
use Rattle.script_seen.specs.Following.{IsFollowed}
use Rattle.script_seen.proofs.tracing.Tracer.happen_all.Given as goal

abbrev pub invariant-loop-event : goal.invariant-loop-event
invariant-loop-event g l = IsFollowed l.initial.self (take l.event-index l.events) l.self (g.T.Write.contents l.initial.out) (g.T.Write.contents l.out)
