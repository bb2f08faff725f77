-- The sorts that a set keeps as bits.
use Rattle.std.proofs.Common.{◌≡◌, ℕ, ◌≤◌, List, length, get_or, Some, ◌∙◌, ap, subst}
use Rattle.std.specs.Prelude.{slice_get, slice_index_or, All}
use Rattle.std.proofs.lemmas.Option.{slice_get-get_or, get_or_from_slice_get}
use Rattle.turn_code.specs.Valid.{IsValid}
use Rattle.turn_code.specs.declared.draft.Draft.{Draft}
use Rattle.turn_code.specs.declared.draft.DraftProcess.{DraftProcess}
use Rattle.turn_code.specs.declared.draft.DraftSignal.{DraftSignal}
use Rattle.turn_code.specs.Sorts.{sort_bits, sorts_of, AreBitsOf, AreSortsOf}
use Rattle.turn_code.specs.declared.sorts.Sorts.{Sorts}
use Rattle.turn_check.specs.Sorted.{AreVariableBits, IsSorted}
use Rattle.turn_check.proofs.Whole.{start_small}

pub all_small : (d : Draft) → IsValid d → All (λ (p : DraftProcess). length p.variables ≤ 32) d.processes
all_small d valid = λ k p less. start_small d k (get_or d.processes k p) valid (slice_get-get_or d.processes k p less)

pub is_sorted : (d : Draft) (ss : List DraftSignal) (xs : List DraftProcess) (ps vs : List ℕ) → IsValid d → ss ≡ d.signals → xs ≡ d.processes → AreBitsOf ss ps
    → AreVariableBits xs vs → IsSorted d ps vs
is_sorted d ss xs ps vs valid e g h i = record {
  valid = valid;
  parameters = subst (λ u. AreBitsOf u ps) e h;
  variables = subst (λ u. AreVariableBits u vs) g i;
}

-- the bits of a process are at its number
pub sorted_at : (d : Draft) (ps vs : List ℕ) (n bits : ℕ) (p : DraftProcess) → IsSorted d ps vs → slice_get d.processes n ≡ Some p → bits ≡ slice_index_or vs n 0
    → AreSortsOf d.signals p.variables (record { parameters = ps; variables = bits })
sorted_at d ps vs n bits p h e is = record {
  signals = h.parameters;
  variables = is ∙ get_or_from_slice_get vs n (sort_bits (sorts_of p.variables)) 0 (h.variables n p e);
}
