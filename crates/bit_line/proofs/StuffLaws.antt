-- Inserted zeros: stuffed bits have no six 1s in a row, and removing the zeros returns the bits.
use Rattle.std.proofs.Common.{◌≡◌, ℕ, ◌<◌, ◌≤◌, suc, Bool, true, false, cond, List, [], ◌∷◌, refl, sym, ap, ◌∙◌, arith, inl, inr, subst, lit<}
use Rattle.std.specs.Prelude.{◌⊎◌, ◌==◌, nat_le, ◌||◌}
use Rattle.std.proofs.lemmas.Bool.Decides.{eqb_tells, leb_tells}
use Rattle.bit_line.specs.Stuffing.{trailing, with_zero, stuffed, taken_out}
use Rattle.bit_line.specs.Deframing.{has_six}

-- ---- tests as choices
same_by : {A : Type 0} (m n : ℕ) (x y : A) → m ≡ n → ((m == n) ≡ true) × (m ≡ n) ⊎ ((m == n) ≡ false) × (m ≡ n → ⊥) → cond (m == n) x y ≡ x
same_by m n x y same (inl t) = ap (λ b. cond b x y) t.0
same_by m n x y same (inr t) = absurd (t.1 same)

other_by : {A : Type 0} (m n : ℕ) (x y : A) → (m ≡ n → ⊥) → ((m == n) ≡ true) × (m ≡ n) ⊎ ((m == n) ≡ false) × (m ≡ n → ⊥) → cond (m == n) x y ≡ y
other_by m n x y other (inl t) = absurd (other t.1)
other_by m n x y other (inr t) = ap (λ b. cond b x y) t.0

pub with_zero-five : (h : List Bool) → trailing h ≡ 5 → with_zero h ≡ false ∷ h
unfolding with_zero
with_zero-five h five = same_by (trailing h) 5 (false ∷ h) h five (eqb_tells (trailing h) 5)

pub with_zero-other : (h : List Bool) → (trailing h ≡ 5 → ⊥) → with_zero h ≡ h
unfolding with_zero
with_zero-other h other = other_by (trailing h) 5 (false ∷ h) h other (eqb_tells (trailing h) 5)

pub taken_out-five : (h : List Bool) → trailing h ≡ 5 → taken_out (false ∷ h) ≡ taken_out h
unfolding taken_out
taken_out-five h five = same_by (trailing h) 5 (taken_out h) (false ∷ taken_out h) five (eqb_tells (trailing h) 5)

pub taken_out-other : (h : List Bool) → (trailing h ≡ 5 → ⊥) → taken_out (false ∷ h) ≡ false ∷ taken_out h
unfolding taken_out
taken_out-other h other = other_by (trailing h) 5 (taken_out h) (false ∷ taken_out h) other (eqb_tells (trailing h) 5)

pub taken_out-one : (h : List Bool) → taken_out (true ∷ h) ≡ true ∷ taken_out h
unfolding taken_out
taken_out-one h = refl

pub choose : (m n : ℕ) → ((m == n) ≡ true) × (m ≡ n) ⊎ ((m == n) ≡ false) × (m ≡ n → ⊥) → (m ≡ n) ⊎ (m ≡ n → ⊥)
choose m n (inl t) = inl t.1
choose m n (inr t) = inr t.1

pub five_or_other : (h : List Bool) → (trailing h ≡ 5) ⊎ (trailing h ≡ 5 → ⊥)
five_or_other h = choose (trailing h) 5 (eqb_tells (trailing h) 5)

-- ---- six 1s in a row
small_by : (n : ℕ) (b : Bool) → (nat_le 6 n || b) ≡ false → ((nat_le 6 n ≡ true) × (6 ≤ n)) ⊎ ((nat_le 6 n ≡ false) × (n < 6)) → (n < 6) × (b ≡ false)
small_by n b none (inl t) = absurd (let e : true ≡ false = sym (ap (λ x. x || b) t.0) ∙ none in cc)
small_by n b none (inr t) = (t.1, sym (ap (λ x. x || b) t.0) ∙ none)

pub no_six-parts : (b : Bool) (h : List Bool) → has_six (b ∷ h) ≡ false → (trailing (b ∷ h) < 6) × (has_six h ≡ false)
unfolding has_six
no_six-parts b h none = small_by (trailing (b ∷ h)) (has_six h) none (leb_tells 6 (trailing (b ∷ h)))

no_six_by : (n : ℕ) (b : Bool) → n < 6 → b ≡ false → ((nat_le 6 n ≡ true) × (6 ≤ n)) ⊎ ((nat_le 6 n ≡ false) × (n < 6)) → (nat_le 6 n || b) ≡ false
no_six_by n b few none (inl t) = absurd (omega (arith, t.1))
no_six_by n b few none (inr t) = ap (λ x. x || b) t.0 ∙ none

pub no_six-more : (b : Bool) (h : List Bool) → trailing (b ∷ h) < 6 → has_six h ≡ false → has_six (b ∷ h) ≡ false
unfolding has_six
no_six-more b h few none = no_six_by (trailing (b ∷ h)) (has_six h) few none (leb_tells 6 (trailing (b ∷ h)))

pub trailing-one : (h : List Bool) → trailing (true ∷ h) ≡ suc (trailing h)
unfolding trailing
trailing-one h = refl

pub trailing-zero : (h : List Bool) → trailing (false ∷ h) ≡ 0
unfolding trailing
trailing-zero h = refl

-- ---- stuffing what was taken out
with_zero-zero : (h : List Bool) → with_zero (false ∷ h) ≡ false ∷ h
unfolding with_zero trailing
with_zero-zero h = refl

pub stuffed-zero : (h : List Bool) → stuffed (false ∷ h) ≡ false ∷ stuffed h
unfolding stuffed
stuffed-zero h = with_zero-zero (stuffed h)

zero_case : (h : List Bool) → stuffed (taken_out h) ≡ with_zero h → (trailing h ≡ 5) ⊎ (trailing h ≡ 5 → ⊥) → stuffed (taken_out (false ∷ h)) ≡ with_zero (false ∷ h)
zero_case h same (inl five) = ap stuffed (taken_out-five h five) ∙ same ∙ with_zero-five h five ∙ sym (with_zero-zero h)
zero_case h same (inr other) =
    ap stuffed (taken_out-other h other) ∙ stuffed-zero (taken_out h) ∙ ap (λ l. false ∷ l) (same ∙ with_zero-other h other) ∙ sym (with_zero-zero h)

pub stuffed-taken_out : (h : List Bool) → has_six h ≡ false → stuffed (taken_out h) ≡ with_zero h
unfolding stuffed taken_out with_zero trailing
stuffed-taken_out [] none = refl
stuffed-taken_out (true ∷ h) none =
    let parts : (trailing (true ∷ h) < 6) × (has_six h ≡ false) = no_six-parts true h none in
    let few : trailing h ≡ 5 → ⊥ = λ five. let e : suc (trailing h) < 6 = parts.0 in omega (arith, e, five) in
    ap (λ l. with_zero (true ∷ l)) (stuffed-taken_out h parts.1 ∙ with_zero-other h few)
stuffed-taken_out (false ∷ h) none = zero_case h (stuffed-taken_out h (no_six-parts false h none).1) (five_or_other h)

-- ---- taking out what was stuffed
pub record IsStuffing (line data_bits : List Bool) : Type 0 where
  pub no_six : has_six line ≡ false
  pub few : trailing line < 5
  pub back : taken_out line ≡ data_bits

one_case : (s h : List Bool) → IsStuffing s h → (suc (trailing s) ≡ 5) ⊎ (suc (trailing s) ≡ 5 → ⊥) → IsStuffing (with_zero (true ∷ s)) (true ∷ h)
one_case s h is (inl five) =
    let five_ones : trailing (true ∷ s) ≡ 5 = trailing-one s ∙ five in
    let none : has_six (true ∷ s) ≡ false = no_six-more true s (omega arith) is.no_six in
    let P : List Bool → Type 0 = λ l. IsStuffing l (true ∷ h) in
    subst P (sym (with_zero-five (true ∷ s) five_ones)) (record {
      no_six = no_six-more false (true ∷ s) (omega (arith, trailing-zero (true ∷ s))) none;
      few = omega (arith, trailing-zero (true ∷ s));
      back = taken_out-five (true ∷ s) five_ones ∙ taken_out-one s ∙ ap (λ l. true ∷ l) is.back;
    })
one_case s h is (inr other) =
    let P : List Bool → Type 0 = λ l. IsStuffing l (true ∷ h) in
    let not_five : trailing (true ∷ s) ≡ 5 → ⊥ = λ five. other (sym (trailing-one s) ∙ five) in
    let few : trailing (true ∷ s) < 5 = omega (arith, trailing-one s, is.few, other) in
    subst P (sym (with_zero-other (true ∷ s) not_five)) (record {
      no_six = no_six-more true s (omega arith) is.no_six;
      few = few;
      back = taken_out-one s ∙ ap (λ l. true ∷ l) is.back;
    })

empty : IsStuffing [] []
unfolding has_six trailing taken_out
empty = record { no_six = refl; few = lit< tt; back = refl }

pub is_stuffing : (h : List Bool) → IsStuffing (stuffed h) h
unfolding stuffed
is_stuffing [] = empty
is_stuffing (true ∷ h) = one_case (stuffed h) h (is_stuffing h) (choose (suc (trailing (stuffed h))) 5 (eqb_tells (suc (trailing (stuffed h))) 5))
is_stuffing (false ∷ h) =
    let is : IsStuffing (stuffed h) h = is_stuffing h in
    let P : List Bool → Type 0 = λ l. IsStuffing l (false ∷ h) in
    subst P (sym (with_zero-zero (stuffed h))) (record {
      no_six = no_six-more false (stuffed h) (omega (arith, trailing-zero (stuffed h))) is.no_six;
      few = omega (arith, trailing-zero (stuffed h));
      back = taken_out-other (stuffed h) (λ five. let few : trailing (stuffed h) < 5 = is.few in omega (arith, few, five)) ∙ ap (λ l. false ∷ l) is.back;
    })

pub trailing-none : trailing [] ≡ 0
unfolding trailing
trailing-none = refl

zero_stays : (h : List Bool) → (taken_out h ≡ [] → h ≡ []) → taken_out (false ∷ h) ≡ [] → (trailing h ≡ 5) ⊎ (trailing h ≡ 5 → ⊥) → ⊥
zero_stays h again none (inl five) =
    let nothing : h ≡ [] = again (sym (taken_out-five h five) ∙ none) in
    let e : trailing h ≡ trailing [] = ap trailing nothing in
    omega (arith, e, five, trailing-none)
zero_stays h again none (inr other) = let e : false ∷ taken_out h ≡ [] = sym (taken_out-other h other) ∙ none in cc

-- if no bits are left, there were none
pub taken_out-none : (h : List Bool) → taken_out h ≡ [] → h ≡ []
unfolding taken_out
taken_out-none [] none = refl
taken_out-none (true ∷ h) none = absurd (let e : true ∷ taken_out h ≡ [] = none in cc)
taken_out-none (false ∷ h) none = absurd (zero_stays h (λ e. taken_out-none h e) none (five_or_other h))
