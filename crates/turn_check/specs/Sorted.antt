-- The bits that a set keeps besides its draft: which parameters and which variables are Booleans.
use Rattle.std.specs.Prelude.{◌≡◌, ℕ, List, Some, slice_get}
use Rattle.turn_code.specs.Valid.{IsValid}
use Rattle.turn_code.specs.declared.draft.Draft.{Draft}
use Rattle.turn_code.specs.declared.draft.DraftProcess.{DraftProcess}
use Rattle.turn_code.specs.Sorts.{sort_bits, sorts_of, AreBitsOf}

-- the element of each process has the bits of its variables
abbrev pub AreVariableBits : List DraftProcess → List ℕ → Type 0
AreVariableBits xs bits =
    (n : ℕ) (p : DraftProcess) → slice_get xs n ≡ Some p
    → slice_get bits n ≡ Some (sort_bits (sorts_of p.variables))

-- the draft is valid, and these are the bits of its signals' parameters and of its processes'
-- variables
pub record IsSorted (d : Draft) (ps vs : List ℕ) : Type 0 where
  pub valid : IsValid d
  pub parameters : AreBitsOf d.signals ps
  pub variables : AreVariableBits d.processes vs
