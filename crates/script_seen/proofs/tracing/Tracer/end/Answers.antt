use Rattle.std.proofs.Common.{◌≡◌, Some, refl, sym, ap, ◌∙◌}
use Rattle.std.specs.Prelude.{option_map}
use Rattle.turn_code.specs.Outcome.{Outcome}
use Rattle.turn_machine.specs.Turn.{Turn, outcome_of}
use Rattle.script_seen.proofs.Steps.{finishes, end_step, is_ended}
use Rattle.script_seen.proofs.tracing.Tracer.end.Goals as goal

pub returns-clause-step : goal.returns-clause-step
returns-clause-step c =
    let same : c.copy.result ≡ c.run-done.result = c.copy.ensures in
    let out = sym c.in-Some-job.ensures ∙ ap (λ (t : Turn). Some t) (sym (same ∙ c.run-done.ensures)) in
    end_step c.args.self.now _ c.args.actor c.in-Some.me c.copy.result c.in-Ok.report _
    (finishes c.args.self.now.again c.args.actor c.in-Some.me c.copy.result c.in-Ok.report _ (sym c.in-Some.ensures) out c.in-Ok.ensures.book c.in-Ok.ensures.next
    c.in-Ok.ensures.report)
    c.in-Ok.ensures.next refl (ap (λ (t : Turn). option_map (λ (o : Outcome). o.progress.effects) (outcome_of t)) same ∙ c.effects.ensures.value)
    c.in_ok-keep_time.ensures

pub returns-clause-ended : goal.returns-clause-ended
returns-clause-ended c =
    let same : c.copy.result ≡ c.run-done.result = c.copy.ensures in
    let out = sym c.in-Some-job.ensures ∙ ap (λ (t : Turn). Some t) (sym (same ∙ c.run-done.ensures)) in
    is_ended c.args.self.now.again c.args.actor _ c.copy.result _ _ c.clock-clock.ensures (sym c.in-Some.ensures)
    (sym c.in-Some-job.ensures ∙ ap (λ (t : Turn). Some t) (sym c.run-done.ensures))
    (finishes c.args.self.now.again c.args.actor c.in-Some.me c.copy.result c.in-Ok.report _ (sym c.in-Some.ensures) out c.in-Ok.ensures.book c.in-Ok.ensures.next
    c.in-Ok.ensures.report)
    same c.effects.ensures.value
