use Rattle.std.proofs.Common.{refl, sym}
use Rattle.actor_machine.specs.declared.event.Event.TheVariants as event
use Rattle.script_seen.proofs.Steps.{skip_keeps, quiet_step}
use Rattle.script_seen.proofs.Noticing.{knows_skip}
use Rattle.script_seen.proofs.tracing.Tracer.skip_watched.Goals as goal

pub returns-in-Ok-clause-step : goal.returns-in-Ok-clause-step
returns-in-Ok-clause-step g c =
    quiet_step c.args.self.now _ (event.Skip c.args.actor) (skip_keeps c.args.actor) c.in-Ok.ensures.book c.in-Ok.ensures.next refl refl

pub returns-in-Ok-clause-knows : goal.returns-in-Ok-clause-knows
returns-in-Ok-clause-knows g c ns k =
    knows_skip (λ d ms. g.N.Watcher.knows d ms c.args.watcher.now) (λ d ms. g.N.Watcher.knows d ms c.tell_throw.new.watcher) c.args.self.now.again c.args.actor _
    c.in-Some.found.now c.set.ensures (sym c.in-Some.ensures) c.in_ok-tell_throw.ensures ns k
