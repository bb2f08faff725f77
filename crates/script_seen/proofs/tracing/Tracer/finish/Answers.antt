use Rattle.std.proofs.Common.{◌∙◌}
use Rattle.script_seen.proofs.Steps.{finish_text}
use Rattle.script_seen.proofs.tracing.Tracer.finish.Goals as goal

pub returns-clause-text : goal.returns-clause-text
returns-clause-text c =
    finish_text c.args.self.now c.args.actor c.in_ok-ended.ended _ _ c.set.result.now c.in_ok-ended.ensures.ended c.in_ok-ended.ensures.step.every
    (c.set.ensures ∙ c.in_ok-ended.ensures.step.set) c.in_ok-turn_text.ensures
