-- Values as words, and words as values.
use Rattle.std.specs.Prelude.{◌≡◌, ℕ, ◌<◌, ◌≤◌, if◌then◌else◌, List, length, Option, Some, None}
use Rattle.std.specs.Prelude.{slice_get}
use Rattle.std.specs.Int.{bit_at}
use Rattle.plain_laws.specs.Limits.{MOST_VARIABLES}
use Rattle.turn_code.specs.Values.{sort_of}
use Rattle.turn_code.specs.declared.value.Value.{Value}
use Rattle.turn_code.specs.Bare.{Bare, kept}
use Rattle.turn_code.specs.Meant.{word_of, IsKept}
use Rattle.turn_code.specs.Sorts.{is_boolean}

-- the words after a variable's value is stored, if it has one
abbrev pub kept_value : Bare → ℕ → Option Value → Bare
kept_value b v None = b
kept_value b v (Some x) = kept b v (word_of x)

-- the first n variables have their values, no other is set, and all else is unchanged
pub record IsKeptTo (old new : Bare) (vs : List (Option Value)) (n : ℕ) : Type 0 where
  pub kept : (v : ℕ) (x : Option Value) → v < n → slice_get vs v ≡ Some x → IsKept new v x
  pub none : (v : ℕ) → n ≤ v → bit_at new.set v ≡ 0
  pub room : length new.variables ≡ MOST_VARIABLES
  pub stack : new.stack ≡ old.stack
  pub depth : new.depth ≡ old.depth
  pub params : new.params ≡ old.params

-- variable v has this value, or none, in words; the bits say which variables are Booleans
abbrev pub IsVariable : Bare → ℕ → ℕ → Option Value → Type 0
IsVariable b bits v None = bit_at b.set v ≡ 0
IsVariable b bits v (Some x) =
    (bit_at b.set v ≡ 1) × (slice_get b.variables v ≡ Some (word_of x))
    × (bit_at bits v ≡ (if is_boolean (sort_of x) then 1 else 0))

abbrev pub AreVariables : Bare → ℕ → List (Option Value) → Type 0
AreVariables b bits vs =
    (v : ℕ) (x : Option Value) → slice_get vs v ≡ Some x → IsVariable b bits v x
