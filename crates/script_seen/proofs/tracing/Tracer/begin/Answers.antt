use Rattle.std.proofs.Common.{refl, sym, ◌∙◌}
use Rattle.actor_machine.specs.Ledger.{state_of}
use Rattle.actor_machine.specs.declared.event.Event.TheVariants as event
use Rattle.script_seen.proofs.Steps.{begin_keeps, quiet_step}
use Rattle.script_seen.proofs.Tellings.{told_begin}
use Rattle.script_seen.proofs.tracing.Tracer.begin.Goals as goal

pub returns-in-Ok-clause-step : goal.returns-in-Ok-clause-step
returns-in-Ok-clause-step c =
    quiet_step c.args.self.now _ (event.Begin c.args.actor) (begin_keeps c.args.actor) c.in-Ok.ensures.book c.in-Ok.ensures.next refl refl

pub returns-in-Ok-clause-text : goal.returns-in-Ok-clause-text
returns-in-Ok-clause-text c =
    c.new.ensures.items ∙ sym (told_begin c.args.self.now.every c.args.self.now.again.set (state_of c.args.self.now.again) c.args.actor)
