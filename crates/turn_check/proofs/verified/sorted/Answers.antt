use Rattle.std.proofs.Common.{◌≤◌, length, subst, sym}
use Rattle.std.specs.Prelude.{List, All}
use Rattle.turn_code.specs.declared.draft.DraftProcess.{DraftProcess}
use Rattle.turn_check.proofs.Sorting.{all_small, is_sorted}
use Rattle.turn_check.proofs.verified.sorted.Goals as goal

pub bits_of_variables-variables-requires-clause-small : goal.bits_of_variables-variables-requires-clause-small
bits_of_variables-variables-requires-clause-small c =
    subst (λ (u : List DraftProcess). All (λ (p : DraftProcess). length p.variables ≤ 32) u) (sym c.as_slice-2.ensures)
    (all_small c.args.draft c.requires)

pub invariant_of-result : goal.invariant_of-result
invariant_of-result c =
    is_sorted c.args.draft c.as_slice.result.now c.as_slice-2.result.now c.parameter_bits-parameters.result c.bits_of_variables-variables.result c.requires
    c.as_slice.ensures c.as_slice-2.ensures c.parameter_bits-parameters.ensures c.bits_of_variables-variables.ensures
