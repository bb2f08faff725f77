-- A test of the numbers below another.
use Rattle.std.proofs.Common.{◌≡◌, ℕ, ◌+◌, ◌<◌, ◌||◌, zero, suc, Bool, true, false, refl, sym, ap, ◌∙◌, arith, inl, inr}
use Rattle.group_changeover.specs.Limits.{SELECTIONS}
use Rattle.group_changeover.proofs.Equal.{Same, same}
use Rattle.link_group.specs.Tables.{any_below}

pub any_none : (f : ℕ → Bool) → any_below f 0 ≡ false
unfolding any_below
any_none f = refl

or_first : (a b : Bool) → a ≡ true → (a || b) ≡ true
or_first a b e = rw e refl

or_second : (a b : Bool) → b ≡ true → (a || b) ≡ true
or_second true b e = refl
or_second false b e = e

neither : (a b : Bool) → a ≡ false → b ≡ false → (a || b) ≡ false
neither a b p q = rw (p, q) refl

found_by : (f : ℕ → Bool) (n i : ℕ) → i < suc n → f i ≡ true → Same i n → (i < n → any_below f n ≡ true) → (any_below f n || f n) ≡ true
found_by f n i h e (inl here) before = or_second (any_below f n) (f n) (ap f (sym here) ∙ e)
found_by f n i h e (inr other) before = or_first (any_below f n) (f n) (before (omega (arith, h, other)))

found : (f : ℕ → Bool) (n i : ℕ) → i < n → f i ≡ true → any_below f n ≡ true
unfolding any_below
found f zero i h e = absurd (omega (arith, h))
found f (suc n) i h e = found_by f n i h e (same i n) (λ less. found f n i less e)

pub any_found : (f : ℕ → Bool) (i : ℕ) (b : Bool) → i < SELECTIONS → b ≡ true → b ≡ f i → true ≡ any_below f SELECTIONS
any_found f i b h e is = sym (found f SELECTIONS i h (sym is ∙ e))

one : (f : ℕ → Bool) (i : ℕ) → f i ≡ false → any_below f i ≡ false → any_below f (suc i) ≡ false
unfolding any_below
one f i e none = neither (any_below f i) (f i) none e

pub any_more : (f : ℕ → Bool) (i : ℕ) (b : Bool) → b ≡ false → b ≡ f i → any_below f i ≡ false → any_below f (i + 1) ≡ false
any_more f i b e is none = let step : i + 1 ≡ suc i = omega arith in ap (any_below f) step ∙ one f i (sym is ∙ e) none
