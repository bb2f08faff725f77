use Rattle.link_term.proofs.Taking.{all_taken}
use Rattle.link_term.proofs.reading.take_events.Goals as goal

pub returns : goal.returns
returns c =
    c.loop-event.invariant.taken c.loop-event.processes
    (all_taken c.args.events.now c.loop-event.event-index c.loop-event.processes c.loop-event-test.false)
