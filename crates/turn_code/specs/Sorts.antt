-- The sorts that words don't carry, as bits.
use Rattle.std.specs.Prelude.{◌≡◌, ℕ, ◌+◌, ◌*◌, ◌≤◌, Bool as Truth, true, false, if◌then◌else◌}
use Rattle.std.specs.Prelude.{List, [], ◌∷◌, map, Option, Some, slice_get, slice_index_or}
use Rattle.plain_laws.specs.Limits.{MOST_PARAMETERS}
use Rattle.turn_code.specs.Values.{sort_of}
use Rattle.turn_code.specs.Run.{address_of}
use Rattle.turn_code.specs.declared.value.Sort.{Sort}
use Rattle.turn_code.specs.declared.value.Sort.TheVariants.{Integer, Boolean}
use Rattle.turn_code.specs.declared.input.Address.{Address}
use Rattle.turn_code.specs.declared.effect.Effect.{Effect}
use Rattle.turn_code.specs.declared.effect.Effect.TheVariants as effect
use Rattle.turn_code.specs.declared.draft.DraftSignal.{DraftSignal}
use Rattle.turn_code.specs.declared.draft.DraftVariable.{DraftVariable}
use Rattle.turn_code.specs.declared.sorts.Sorts.{Sorts}
use Rattle.turn_code.specs.declared.after.BareEffect.{BareEffect}
use Rattle.turn_code.specs.declared.after.BareEffect.TheVariants.{Output, Set, Reset}

abbrev pub is_boolean : Sort → Truth
is_boolean Integer = false
is_boolean Boolean = true

-- bit j says whether sort j is Boolean
abbrev pub sort_bits : List Sort → ℕ
sort_bits [] = 0
sort_bits (s ∷ ss) = (if is_boolean s then 1 else 0) + 2 * sort_bits ss

abbrev pub sorts_of : List DraftVariable → List Sort
sorts_of xs = map (λ (x : DraftVariable). x.sort) xs

-- the element of each signal has the bits of its parameters
abbrev pub AreBitsOf : List DraftSignal → List ℕ → Type 0
AreBitsOf ss bits =
    (n : ℕ) (s : DraftSignal) → slice_get ss n ≡ Some s
    → slice_get bits n ≡ Some (sort_bits s.parameters)

-- the bits are those of a set's signals and of a process's variables
pub record AreSortsOf (ss : List DraftSignal) (xs : List DraftVariable) (s : Sorts) : Type 0 where
  pub signals : AreBitsOf ss s.parameters
  pub variables : s.variables ≡ sort_bits (sorts_of xs)

-- the values of an effect have the sorts of its signal's parameters
abbrev pub IsOfSorts : Sorts → Effect → Type 0
IsOfSorts s (effect.Output e) =
    slice_index_or s.parameters e.signal.0 0 ≡ sort_bits (map sort_of e.parameters.items)
IsOfSorts s (effect.Set t z) = Unit {0}
IsOfSorts s (effect.Reset t) = Unit {0}

-- an output has a receiver, and it has no more words than a signal may have parameters
abbrev pub HasReceiver : BareEffect → Option Address → Type 0
HasReceiver (Output n r c ws) from =
    (to : Address) × (address_of r from ≡ Some to) × (c ≤ MOST_PARAMETERS)
HasReceiver (Set t z) from = Unit {0}
HasReceiver (Reset t) from = Unit {0}
