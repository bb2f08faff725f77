use Rattle.std.proofs.Common.{◌≤◌, length, subst}
use Rattle.turn_code.specs.declared.draft.Cert.{Cert}
use Rattle.turn_machine.proofs.Jobs.{safe_of, own_run}
use Rattle.turn_machine.proofs.done.run.Goals as goal

pub run_code-end-requires : goal.run_code-end-requires
run_code-end-requires c =
    safe_of c.args.job c.code.result.now c.input.result.now c.sorts.result.now c.certificate.result c.safe_law.ensures c.sorts.ensures c.code.ensures
    c.input.ensures.value c.certificate.ensures

pub invariant_of-result : goal.invariant_of-result
invariant_of-result c = record {
  ran = own_run c.args.job c.code.result.now c.input.result.now _ c.code.ensures c.input.ensures.value c.run_code-end.ensures.ran;
  within = subst (λ (k : Cert). c.run_code-end.new.machine.count ≤ k.budget) c.certificate.ensures c.run_code-end.ensures.within;
  few = subst (λ (k : Cert). length c.run_code-end.new.machine.effects.items ≤ k.effects) c.certificate.ensures c.run_code-end.ensures.few;
}
