use Rattle.std.proofs.Common.{refl, ◌∙◌}
use Rattle.script_seen.proofs.Steps.{advance_step, advance_text}
use Rattle.script_seen.proofs.tracing.Tracer.advance.Goals as goal

pub returns-in-Ok-advance-clause-step : goal.returns-in-Ok-advance-clause-step
returns-in-Ok-advance-clause-step c =
    advance_step c.args.self.now _ c.args.ticks c.in-Ok-advance.ensures.book c.in-Ok-advance.ensures.next refl c.in-Ok.ensures.clock c.in-Ok.ensures.rest

pub returns-in-Ok-advance-clause-text : goal.returns-in-Ok-advance-clause-text
returns-in-Ok-advance-clause-text c agree =
    c.in_ok-text.ensures
    ∙ advance_text c.args.self.now c.args.ticks _ _ (c.clock.ensures.value ∙ c.in-Ok.ensures.clock) (c.due.ensures ∙ c.in-Ok.ensures.due) agree
