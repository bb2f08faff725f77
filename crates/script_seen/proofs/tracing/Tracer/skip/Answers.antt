use Rattle.std.proofs.Common.{refl, ap, ◌∙◌}
use Rattle.std.specs.List.{flat_map}
use Rattle.actor_machine.specs.Ledger.{state_of}
use Rattle.actor_machine.specs.declared.event.Event.TheVariants as event
use Rattle.plain_text.specs.Lines.{line_of}
use Rattle.script_seen.proofs.Steps.{skip_keeps, quiet_step}
use Rattle.script_seen.proofs.Tellings.{told_skip}
use Rattle.script_seen.proofs.tracing.Tracer.skip.Goals as goal

pub returns-in-Ok-clause-step : goal.returns-in-Ok-clause-step
returns-in-Ok-clause-step c =
    quiet_step c.args.self.now _ (event.Skip c.args.actor) (skip_keeps c.args.actor) c.in-Ok.ensures.book c.in-Ok.ensures.next refl refl

pub returns-in-Ok-clause-text : goal.returns-in-Ok-clause-text
returns-in-Ok-clause-text c =
    c.in_ok-text.ensures
    ∙ ap (flat_map line_of) (told_skip c.args.self.now.every c.args.self.now.again.set (state_of c.args.self.now.again) c.args.actor)
