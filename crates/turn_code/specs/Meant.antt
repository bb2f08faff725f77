-- Which words represent which values. A value determines its word, but a word doesn't determine its
-- value, since it doesn't carry its sort.
use Rattle.std.specs.Prelude.{◌≡◌, ℕ, ◌≤◌, ℤ, List, ◌∷◌, ◌++◌, [], length, map, take, Option, Some}
use Rattle.std.specs.Prelude.{None, slice_get}
use Rattle.std.specs.Int.{bit_at}
use Rattle.plain_laws.specs.Limits.{MOST_PARAMETERS}
use Rattle.turn_code.specs.Run.{address_of}
use Rattle.turn_code.specs.declared.value.Value.{Value}
use Rattle.turn_code.specs.declared.value.Value.TheVariants.{Int, Bool}
use Rattle.turn_code.specs.declared.effect.Effect.{Effect}
use Rattle.turn_code.specs.declared.effect.Effect.TheVariants as effect
use Rattle.turn_code.specs.declared.input.Address.{Address}
use Rattle.turn_code.specs.declared.after.BareEffect.{BareEffect}
use Rattle.turn_code.specs.declared.after.BareEffect.TheVariants.{Output, Set, Reset}
use Rattle.turn_code.specs.Bare.{Bare, truth_word}

abbrev pub word_of : Value → ℤ
word_of (Int z) = z
word_of (Bool b) = truth_word b

-- variable v: its bit says whether it is set; if it is, its word is the word of its value
abbrev pub IsKept : Bare → ℕ → Option Value → Type 0
IsKept b v None = bit_at b.set v ≡ 0
IsKept b v (Some x) = (bit_at b.set v ≡ 1) × (slice_get b.variables v ≡ Some (word_of x))

-- the words represent these operands, the topmost first, these variables and these parameters
pub record AreWordsOf (b : Bare) (os : List Value) (vs : List (Option Value)) (ps : List Value) :
    Type 0 where
  pub operands : b.stack ≡ map word_of os
  pub depth : b.depth ≡ length os
  pub variables : (v : ℕ) (x : Option Value) → slice_get vs v ≡ Some x → IsKept b v x
  pub parameters :
      (j : ℕ) (x : Value) → slice_get ps j ≡ Some x → slice_get b.params j ≡ Some (word_of x)

-- the effect that words represent; `from` is the sender of the transition's signal
abbrev pub IsEffectOf : Option Address → BareEffect → Effect → Type 0
IsEffectOf from (Output n r c ws) (effect.Output s) =
    (s.signal ≡ n) × (c ≤ MOST_PARAMETERS) × (c ≡ length s.parameters.items)
    × (address_of r from ≡ Some s.receiver) × (take c ws ≡ map word_of s.parameters.items)
IsEffectOf from (Output n r c ws) (effect.Set t z) = ⊥
IsEffectOf from (Output n r c ws) (effect.Reset t) = ⊥
IsEffectOf from (Set n z) (effect.Output s) = ⊥
IsEffectOf from (Set n z) (effect.Set t y) = (t ≡ n) × (y ≡ z)
IsEffectOf from (Set n z) (effect.Reset t) = ⊥
IsEffectOf from (Reset n) (effect.Output s) = ⊥
IsEffectOf from (Reset n) (effect.Set t y) = ⊥
IsEffectOf from (Reset n) (effect.Reset t) = t ≡ n

-- the new effects are the old ones, followed by the given effect if there is one
abbrev pub Grow : Option Address → Option BareEffect → List Effect → List Effect → Type 0
Grow from None old new = new ≡ old
Grow from (Some given) old new = (e : Effect) × IsEffectOf from given e × (new ≡ old ++ e ∷ [])
