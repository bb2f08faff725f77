use Rattle.std.proofs.Common.{List, ℕ, subst}
use Rattle.std.specs.Io.KnownBytes.{Appends}
use Rattle.script_seen.proofs.Steps.{followed_begins, followed_on, followed_all}
use Rattle.script_seen.proofs.tracing.Tracer.happen_all.Goals as goal

pub loop-event-init : goal.loop-event-init
loop-event-init g c = followed_begins c.args.self.now (g.T.Write.contents c.args.out.now)

pub loop-event-preserved : goal.loop-event-preserved
loop-event-preserved g c =
    let B : List ℕ → Type 0 = λ bs. Appends (g.T.Write.contents c.loop-event.out) (g.T.Write.contents c.write_all.new.self) bs in
    followed_on c.args.self.now _ _ c.args.events.now c.loop-event.event-index c.event-item.result (g.T.Write.contents c.args.out.now) _ _ _ c.loop-event-test.true
    c.event-item.is c.loop-event.invariant c.in_ok-text.ensures.step c.in_ok-text.ensures.text (subst B c.deref.ensures.value c.in_ok-write_all.ensures.bytes)

pub returns : goal.returns
returns g c = followed_all c.args.self.now _ c.args.events.now c.loop-event.event-index _ _ c.loop-event-test.false c.loop-event.invariant
