-- The counts at each place of code: the instructions, or the effects, of the longest way on from
-- there.
use Rattle.std.specs.Prelude.{◌≡◌, ℕ, ◌+◌, ◌≤◌, if◌then◌else◌, nat_lt, List, length, map, Some}
use Rattle.std.specs.Prelude.{get_or, slice_get}
use Rattle.turn_code.specs.declared.instruction.Instruction.{Instruction}
use Rattle.turn_code.specs.Code.{successors, effects_of}
use Rattle.turn_code.specs.Rules.{greatest}
use Rattle.sdl_compile.specs.declared.counts.Counted.{Counted}
use Rattle.sdl_compile.specs.declared.counts.Counted.TheVariants.{Instructions, Effects}

-- The count of an instruction.
abbrev pub weight : Counted → Instruction → ℕ
weight Instructions i = 1
weight Effects i = effects_of i

-- The number at a place; 0 if there is none.
abbrev pub number_at : List ℕ → ℕ → ℕ
number_at counts k = get_or counts k 0

-- Each place counts its instruction and the greatest count of the places where the code goes on.
pub record AreCounts (w : Instruction → ℕ) (code : List Instruction) (counts : List ℕ) :
    Type 0 where
  pub length : length counts ≡ length code
  pub each : (k : ℕ) (i : Instruction) → slice_get code k ≡ Some i
      → number_at counts k ≡ w i + greatest (map (number_at counts) (successors i k))

-- The count of place j that place k reads: the new count if j is later, else the known one.
abbrev pub read_at : List ℕ → List ℕ → ℕ → ℕ → ℕ
read_at known counts k j = if nat_lt k j then number_at counts j else number_at known j

-- Counts made from the end of the code on. `known` has the counts of the places to which the code
-- goes back.
pub record AreCountsFrom (w : Instruction
    → ℕ) (known : List ℕ) (code : List Instruction) (counts : List ℕ) : Type 0 where
  pub length : length counts ≡ length code
  pub each : (k : ℕ) (i : Instruction) → slice_get code k ≡ Some i
      → number_at counts k ≡ w i + greatest (map (read_at known counts k) (successors i k))

-- No number of the list is greater than this one.
abbrev pub AreWithin : ℕ → List ℕ → Type 0
AreWithin most counts = (k : ℕ) → number_at counts k ≤ most
