-- The paths of a piece: a path may take either way at each branch.
use Rattle.std.specs.Prelude.{◌≡◌, ℕ, suc, ◌+◌, ◌≤◌, List, [], Contains, Some, slice_get}
use Rattle.turn_code.specs.Code.{successors, effects_of}
use Rattle.turn_code.specs.Transitions.{Transition}
use Rattle.turn_code.specs.Valid.{IsValidTransition}
use Rattle.turn_code.specs.declared.instruction.Instruction.{Instruction}
use Rattle.turn_code.specs.declared.draft.Draft.{Draft}

-- there is a path of n instructions with e effects from place k to an end
pub data Path (code : List Instruction) : ℕ → ℕ → ℕ → Type 0 where
  last : {k : ℕ} (i : Instruction) → slice_get code k ≡ Some i → successors i k ≡ []
      → Path code k 1 (effects_of i)
  more : {k n e : ℕ} (i : Instruction) (j : ℕ) → slice_get code k ≡ Some i
      → Contains (successors i k) j → Path code j n e
      → Path code k (suc n) (effects_of i + e)

-- n is the number of instructions of a path from the first place, and no such path has more
pub record IsLongest (code : List Instruction) (n : ℕ) : Type 0 where
  pub effects : ℕ
  pub reached : Path code 0 n effects
  pub greatest : (m e : ℕ) → Path code 0 m e → m ≤ n

-- e is the number of effects of a path from the first place, and no such path has more
pub record IsMostEffects (code : List Instruction) (e : ℕ) : Type 0 where
  pub length : ℕ
  pub reached : Path code 0 length e
  pub greatest : (m f : ℕ) → Path code 0 m f → f ≤ e

-- the certificate of a valid transition states the length of the longest path and the most effects
-- of any path, exactly
pub record PathLaw : Type 0 where
  pub budget :
      (d : Draft) (t : Transition) → IsValidTransition d t
      → IsLongest t.piece.code t.piece.certificate.budget
  pub effects :
      (d : Draft) (t : Transition) → IsValidTransition d t
      → IsMostEffects t.piece.code t.piece.certificate.effects
