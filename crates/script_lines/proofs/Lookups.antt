-- The numbers of names that a look-up finds.
use Rattle.std.proofs.Common.{◌≡◌, ℕ, zero, suc, true, false, List, [], ◌∷◌, map, Option, None, Some, refl, sym, arith}
use Rattle.std.specs.Prelude.{option_map, IfSome, IfNone}
use Rattle.std.specs.Char.{to_ascii_lowercase}
use Rattle.std.proofs.lemmas.Bool.{false_from_ne_true}
use Rattle.std.proofs.lemmas.Slice.Eq.{bytes_eq-Decides}
use Rattle.turn_check.specs.Named.{SameName, IsFirst, IsNowhere}
use Rattle.script_lines.specs.ActorWords.{same_name, number_of}

same : (x name : List ℕ) → SameName x name → same_name x name ≡ true
same x name is = (bytes_eq-Decides (map to_ascii_lowercase x) (map to_ascii_lowercase name)).1 is

other : (x name : List ℕ) → (SameName x name → ⊥) → same_name x name ≡ false
other x name h = false_from_ne_true (same_name x name) (λ is. h ((bytes_eq-Decides (map to_ascii_lowercase x) (map to_ascii_lowercase name)).0 is))

first : (names : List (List ℕ)) (n : ℕ) (name : List ℕ) → IsFirst names n name → number_of names name ≡ Some n
unfolding number_of
first [] n name h = absurd h.there
first (x ∷ xs) zero name h = rw (same x name h.there) refl
first (x ∷ xs) (suc n) name h =
    let rest : IsFirst xs n name = record { there = h.there; before = λ k less is. h.before (suc k) (omega (arith, less)) is } in
    rw (other x name (h.before 0 (omega arith)), first xs n name rest) refl

nowhere : (names : List (List ℕ)) (name : List ℕ) → IsNowhere names name → number_of names name ≡ None
unfolding number_of
nowhere [] name h = refl
nowhere (x ∷ xs) name h = rw (other x name (h 0), nowhere xs name (λ k is. h (suc k) is)) refl

-- The result of a look-up is that of `number_of`.
pub looked : {A : Type 0} (number : A → ℕ) (o : Option A) (names : List (List ℕ)) (name : List ℕ) → IfSome o (λ x. IsFirst names (number x) name) → IfNone o (IsNowhere names name)
    → option_map number o ≡ number_of names name
looked number None names name some none = sym (nowhere names name none)
looked number (Some x) names name some none = sym (first names (number x) name some)
