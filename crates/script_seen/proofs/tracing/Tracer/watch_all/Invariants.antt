-- The events so far happened, and the watcher was notified.
use Rattle.std.proofs.Common.{take}
use Rattle.script_seen.proofs.Noticing.{Watches}
use Rattle.script_seen.proofs.tracing.Tracer.watch_all.Given as goal

abbrev pub invariant-loop-event : goal.invariant-loop-event
invariant-loop-event g l =
    Watches (λ d ns. g.N.Watcher.knows d ns l.initial.watcher) (λ d ns. g.N.Watcher.knows d ns l.watcher) l.initial.self (take l.event-index l.events) l.self
