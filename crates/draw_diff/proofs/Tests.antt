-- Boolean tests, and what their results prove.
use Rattle.std.proofs.Common.{◌≡◌, ℕ, Bool, true, false, List, refl, sym}
use Rattle.std.specs.Prelude.{bytes_eq}
use Rattle.std.proofs.lemmas.Slice.Eq.{bytes_eq-Decides}

same_tests : (b c : Bool) → (b ≡ true → c ≡ true) → (c ≡ true → b ≡ true) → b ≡ c
same_tests true c f g = sym (f refl)
same_tests false true f g = g refl
same_tests false false f g = refl

-- a test that is true exactly if two lists are equal has the value of `bytes_eq`
pub is_bytes_eq : (b : Bool) (xs ys : List ℕ) → (b ≡ true → xs ≡ ys) → (xs ≡ ys → b ≡ true) → b ≡ bytes_eq xs ys
is_bytes_eq b xs ys f g =
    same_tests b (bytes_eq xs ys) (λ e. (bytes_eq-Decides xs ys).1 (f e)) (λ e. g ((bytes_eq-Decides xs ys).0 e))
