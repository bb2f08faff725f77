-- A number equals another one or not, and so does a link.
use Rattle.std.proofs.Common.{◌≡◌, ◌≢◌, ℕ, ◌==◌, true, false, Option, Some, None, ap, inl, inr}
use Rattle.std.specs.Prelude.{◌⊎◌}
use Rattle.std.proofs.lemmas.Bool.Decides.{eqb_tells}
use Rattle.plain_laws.proofs.Options.{none_some}

abbrev pub Same : ℕ → ℕ → Type 0
Same a b = (a ≡ b) ⊎ (a ≡ b → ⊥)

same_by : {a b : ℕ} → ((a == b) ≡ true) × (a ≡ b) ⊎ ((a == b) ≡ false) × (a ≢ b) → Same a b
same_by (inl x) = inl x.1
same_by (inr x) = inr x.1

pub same : (a b : ℕ) → Same a b
same a b = same_by (eqb_tells a b)

pub some_same : {a b : ℕ} → Some a ≡ Some b → a ≡ b
some_same {a = a} {b = b} e = ap (λ (o : Option ℕ). or_zero o) e
  where
    or_zero : Option ℕ → ℕ
    or_zero None = 0
    or_zero (Some n) = n

abbrev pub Is : Option ℕ → ℕ → Type 0
Is o l = (o ≡ Some l) ⊎ (o ≡ Some l → ⊥)

is_by : (n l : ℕ) → Same n l → Is (Some n) l
is_by n l (inl e) = inl (ap Some e)
is_by n l (inr not_so) = inr (λ e. not_so (some_same e))

pub is : (o : Option ℕ) (l : ℕ) → Is o l
is None l = inr (λ e. none_some e)
is (Some n) l = is_by n l (same n l)
