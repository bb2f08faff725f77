use Rattle.script_seen.proofs.Noticing.{watches_begins, watches_on, watches_all}
use Rattle.script_seen.proofs.tracing.Tracer.watch_all.Goals as goal

pub loop-event-init : goal.loop-event-init
loop-event-init g c = watches_begins (λ d ns. g.N.Watcher.knows d ns c.args.watcher.now) c.args.self.now

pub loop-event-preserved : goal.loop-event-preserved
loop-event-preserved g c =
    watches_on (λ d ns. g.N.Watcher.knows d ns c.args.watcher.now) (λ d ns. g.N.Watcher.knows d ns c.loop-event.watcher)
    (λ d ns. g.N.Watcher.knows d ns c.happen_watched.new.watcher) c.args.self.now _ _ c.args.events.now c.loop-event.event-index c.event-item.result
    c.loop-event-test.true c.event-item.is c.loop-event.invariant c.in_ok-happen_watched.ensures.step c.in_ok-happen_watched.ensures.knows

pub returns-clause-moved : goal.returns-clause-moved
returns-clause-moved g c =
    (watches_all (λ d ns. g.N.Watcher.knows d ns c.args.watcher.now) (λ d ns. g.N.Watcher.knows d ns c.loop-event.watcher) c.args.self.now _ c.args.events.now
    c.loop-event.event-index c.loop-event-test.false c.loop-event.invariant).moved

pub returns-clause-knows : goal.returns-clause-knows
returns-clause-knows g c =
    (watches_all (λ d ns. g.N.Watcher.knows d ns c.args.watcher.now) (λ d ns. g.N.Watcher.knows d ns c.loop-event.watcher) c.args.self.now _ c.args.events.now
    c.loop-event.event-index c.loop-event-test.false c.loop-event.invariant).knows
