-- Inserted zeros among a few line bits: the numbers that the code computes, by trying each case.
use Rattle.std.proofs.Common.{◌≡◌, ℕ, ◌+◌, ◌-◌, ◌*◌, ◌/◌, ◌%◌, ◌^◌, ◌<◌, ◌≤◌, suc, Bool, true, false, cond, not, List, [], ◌∷◌, ◌++◌, reverse, refl, sym, ap, ◌∙◌, arith, subst, inl, inr}
use Rattle.std.specs.Prelude.{◌==◌, ◌&&◌, ◌||◌, ◌⊎◌, nat_lt, nat_le}
use Rattle.std.specs.Int.{leading_ones, w8, w16}
use Rattle.std.proofs.lemmas.Nat.{pow_pos, one_shl}
use Rattle.std.proofs.lemmas.Bool.{eqb-true, ltb-true, or_parts as neither, and_parts as both}
use Rattle.std.proofs.lemmas.Bool.Decides.{eqb_tells}
use lib.Count.{count_leading_zeros, count_trailing_zeros}
use Rattle.su_octets.specs.Bits.{low_bits}
use Rattle.bit_line.specs.Stuffing.{trailing, taken_out}
use Rattle.bit_line.specs.Deframing.{has_six}
use Rattle.bit_line.proofs.StuffLaws.{taken_out-five, taken_out-other, taken_out-one, trailing-one, trailing-zero}
use Rattle.bit_line.proofs.OctetLaws.{window_of, fives_of, first_of, cut_of, all_below, same_bits, at_one, bits_same, if_so, if_not_by, one_later}

-- ---- line bits after r 1s in a row, in order: the bits left, how many 1s they end with, and whether six occur
abbrev pub data_of : ℕ → List Bool → List Bool
data_of r [] = []
data_of r (true ∷ bs) = true ∷ data_of (suc r) bs
data_of r (false ∷ bs) = cond (r == 5) (data_of 0 bs) (false ∷ data_of 0 bs)

abbrev pub ones_of : ℕ → List Bool → ℕ
ones_of r [] = r
ones_of r (true ∷ bs) = ones_of (suc r) bs
ones_of r (false ∷ bs) = ones_of 0 bs

abbrev pub six_of : ℕ → List Bool → Bool
six_of r [] = false
six_of r (true ∷ bs) = nat_le 6 (suc r) || six_of (suc r) bs
six_of r (false ∷ bs) = six_of 0 bs

pub record Comes (bs h : List Bool) (r : ℕ) : Type 0 where
  pub data_bits : taken_out (reverse bs ++ h) ≡ reverse (data_of r bs) ++ taken_out h
  pub ones : ones_of r bs ≡ trailing (reverse bs ++ h)
  pub six : six_of r bs ≡ false → has_six (reverse bs ++ h) ≡ has_six h

six_one : (r : ℕ) (h : List Bool) → r ≡ trailing h → nat_le 6 (suc r) ≡ false → has_six (true ∷ h) ≡ has_six h
unfolding has_six
six_one r h count few = ap (λ n. nat_le 6 n || has_six h) (trailing-one h ∙ ap suc (sym count)) ∙ ap (λ b. b || has_six h) few

six_zero : (h : List Bool) → has_six (false ∷ h) ≡ has_six h
unfolding has_six
six_zero h = ap (λ n. nat_le 6 n || has_six h) (trailing-zero h)

zero_data : (r : ℕ) (h d : List Bool) → r ≡ trailing h → ((r == 5) ≡ true) × (r ≡ 5) ⊎ ((r == 5) ≡ false) × (r ≡ 5 → ⊥)
    → reverse d ++ taken_out (false ∷ h) ≡ reverse (cond (r == 5) d (false ∷ d)) ++ taken_out h
zero_data r h d count (inl t) =
    ap (λ l. reverse d ++ l) (taken_out-five h (sym count ∙ t.1)) ∙ sym (ap (λ b. reverse (cond b d (false ∷ d)) ++ taken_out h) t.0)
zero_data r h d count (inr t) =
    ap (λ l. reverse d ++ l) (taken_out-other h (λ five. t.1 (count ∙ five))) ∙ sym (one_later false d (taken_out h))
    ∙ sym (ap (λ b. reverse (cond b d (false ∷ d)) ++ taken_out h) t.0)

pub comes : (bs h : List Bool) (r : ℕ) → r ≡ trailing h → Comes bs h r
comes [] h r count = record { data_bits = refl; ones = count; six = λ none. refl }
comes (true ∷ bs) h r count =
    let rest : Comes bs (true ∷ h) (suc r) = comes bs (true ∷ h) (suc r) (ap suc count ∙ sym (trailing-one h)) in
    record {
      data_bits =
          ap taken_out (one_later true bs h) ∙ rest.data_bits ∙ ap (λ l. reverse (data_of (suc r) bs) ++ l) (taken_out-one h)
          ∙ sym (one_later true (data_of (suc r) bs) (taken_out h));
      ones = rest.ones ∙ ap trailing (sym (one_later true bs h));
      six = λ none.
          let parts : (nat_le 6 (suc r) ≡ false) × (six_of (suc r) bs ≡ false) = neither (nat_le 6 (suc r)) (six_of (suc r) bs) none in
          ap has_six (one_later true bs h) ∙ rest.six parts.1 ∙ six_one r h count parts.0;
    }
comes (false ∷ bs) h r count =
    let rest : Comes bs (false ∷ h) 0 = comes bs (false ∷ h) 0 (sym (trailing-zero h)) in
    record {
      data_bits = ap taken_out (one_later false bs h) ∙ rest.data_bits ∙ zero_data r h (data_of 0 bs) count (eqb_tells r 5);
      ones = rest.ones ∙ ap trailing (sym (one_later false bs h));
      six = λ none. ap has_six (one_later false bs h) ∙ rest.six none ∙ six_zero h;
    }

-- ---- all bits after all numbers of 1s, by trying each
abbrev pub after_of : ℕ → ℕ → ℕ → ℕ
after_of r len x = leading_ones w16 (window_of x r * 2 ^ (15 - len - r) % 65536 * 2 ^ 1 % 65536)

abbrev pub below_of : ℕ → ℕ → ℕ
below_of r x = x % (1 * 2 ^ cut_of x r % 256)

abbrev pub squeezed : ℕ → ℕ → ℕ
squeezed r x = (x - below_of r x) / 2 + below_of r x

abbrev data_told : ℕ → ℕ → ℕ → ℕ → ℕ → Bool
data_told r len x n y = same_bits (data_of r (low_bits len x)) (low_bits n y)

abbrev ones_told : ℕ → ℕ → ℕ → Bool
ones_told r len x = ones_of r (low_bits len x) == after_of r len x

abbrev fit_told : ℕ → ℕ → ℕ → ℕ → ℕ → Bool
fit_told r len x n y = nat_lt (after_of r len x) 6 && nat_lt y (2 ^ n)

abbrev gives_told : ℕ → ℕ → ℕ → ℕ → ℕ → Bool
gives_told r len x n y = data_told r len x n y && (ones_told r len x && (not (six_of r (low_bits len x)) && fit_told r len x n y))

abbrev cut_told : ℕ → ℕ → ℕ → Bool
cut_told r len x = nat_lt (cut_of x r) 8 && (nat_lt 0 len && gives_told r len x (len - 1) (squeezed r x))

abbrev five_told : ℕ → ℕ → ℕ → Bool
five_told r len x = cond (cut_of x r == len) (gives_told r len x len x) (cut_told r len x)

abbrev once_told : ℕ → ℕ → ℕ → Bool
once_told r len x = cond (fives_of (window_of x r) / 2 ^ first_of x r == 1) (five_told r len x) true

abbrev told : ℕ → ℕ → ℕ → Bool
told r len x = cond (fives_of (window_of x r) == 0) (gives_told r len x len x) (once_told r len x)

tried : all_below (λ r. all_below (λ len. all_below (λ x. told r len x) (2 ^ len)) 9) 6 ≡ true
unfolding low_bits count_leading_zeros count_trailing_zeros
tried = refl

told_at : (r len x : ℕ) → r ≤ 5 → len ≤ 8 → x < 2 ^ len → told r len x ≡ true
told_at r len x few short small =
    at_one (λ y. told r len y) (2 ^ len) x
    (at_one (λ n. all_below (λ y. told r n y) (2 ^ n)) 9 len (at_one (λ q. all_below (λ n. all_below (λ y. told q n y) (2 ^ n)) 9) 6 r tried (omega arith)) (omega arith)) small

-- ---- the bits left without inserted zeros
pub record Gives (r len x n y : ℕ) : Type 0 where
  pub data_bits : data_of r (low_bits len x) ≡ low_bits n y
  pub ones : ones_of r (low_bits len x) ≡ after_of r len x
  pub six : six_of r (low_bits len x) ≡ false
  pub few : after_of r len x ≤ 5
  pub fits : y < 2 ^ n

isnt : (b : Bool) → not b ≡ true → b ≡ false
isnt true is = absurd (let e : false ≡ true = is in cc)
isnt false is = refl

gives : (r len x n y : ℕ) → gives_told r len x n y ≡ true → Gives r len x n y
gives r len x n y is =
    let six : Bool = not (six_of r (low_bits len x)) in
    let a = both (data_told r len x n y) (ones_told r len x && (six && fit_told r len x n y)) is in
    let b = both (ones_told r len x) (six && fit_told r len x n y) a.1 in
    let c = both six (fit_told r len x n y) b.1 in
    let d = both (nat_lt (after_of r len x) 6) (nat_lt y (2 ^ n)) c.1 in
    record {
      data_bits = bits_same (data_of r (low_bits len x)) (low_bits n y) a.0;
      ones = eqb-true (ones_of r (low_bits len x)) (after_of r len x) b.0;
      six = isnt (six_of r (low_bits len x)) c.0;
      few = omega (arith, ltb-true (after_of r len x) 6 d.0);
      fits = ltb-true y (2 ^ n) d.1;
    }

pub plain : (r len x : ℕ) → r ≤ 5 → len ≤ 8 → x < 2 ^ len → fives_of (window_of x r) ≡ 0 → Gives r len x len x
plain r len x few short small none =
    gives r len x len x (if_so (fives_of (window_of x r)) (gives_told r len x len x) (once_told r len x) none (told_at r len x few short small))

one_so : (n : ℕ) (x y : Bool) → n ≡ 1 → cond (n == 1) x y ≡ true → x ≡ true
one_so n x y one is = sym (ap (λ m. cond (m == 1) x y) one) ∙ is

five : (r len x : ℕ) → r ≤ 5 → len ≤ 8 → x < 2 ^ len → (fives_of (window_of x r) ≡ 0 → ⊥) → fives_of (window_of x r) / 2 ^ first_of x r ≡ 1 → five_told r len x ≡ true
five r len x few short small some once =
    one_so (fives_of (window_of x r) / 2 ^ first_of x r) (five_told r len x) true once
    (if_not_by (fives_of (window_of x r)) (gives_told r len x len x) (once_told r len x) some (eqb_tells (fives_of (window_of x r)) 0) (told_at r len x few short small))

same_so : (m n : ℕ) (x y : Bool) → m ≡ n → ((m == n) ≡ true) × (m ≡ n) ⊎ ((m == n) ≡ false) × (m ≡ n → ⊥) → cond (m == n) x y ≡ true → x ≡ true
same_so m n x y same (inl t) is = sym (ap (λ b. cond b x y) t.0) ∙ is
same_so m n x y same (inr t) is = absurd (t.1 same)

other_so : (m n : ℕ) (x y : Bool) → (m ≡ n → ⊥) → ((m == n) ≡ true) × (m ≡ n) ⊎ ((m == n) ≡ false) × (m ≡ n → ⊥) → cond (m == n) x y ≡ true → y ≡ true
other_so m n x y other (inl t) is = absurd (other t.1)
other_so m n x y other (inr t) is = sym (ap (λ b. cond b x y) t.0) ∙ is

pub at_end : (r len x : ℕ) → r ≤ 5 → len ≤ 8 → x < 2 ^ len → (fives_of (window_of x r) ≡ 0 → ⊥) → fives_of (window_of x r) / 2 ^ first_of x r ≡ 1 → cut_of x r ≡ len
    → Gives r len x len x
at_end r len x few short small some once last =
    gives r len x len x (same_so (cut_of x r) len (gives_told r len x len x) (cut_told r len x) last (eqb_tells (cut_of x r) len) (five r len x few short small some once))

pub record Cut (r len x : ℕ) : Type 0 where
  pub cut : cut_of x r < 8
  pub some : 1 ≤ len
  pub divides : 0 < 1 * 2 ^ cut_of x r % 256
  pub gives : Gives r len x (len - 1) (squeezed r x)

cut_by : (r len x : ℕ) → cut_told r len x ≡ true → Cut r len x
cut_by r len x is =
    let a = both (nat_lt (cut_of x r) 8) (nat_lt 0 len && gives_told r len x (len - 1) (squeezed r x)) is in
    let b = both (nat_lt 0 len) (gives_told r len x (len - 1) (squeezed r x)) a.1 in
    let P : ℕ → Type 0 = λ n. 0 < n in
    let small : cut_of x r < 8 = ltb-true (cut_of x r) 8 a.0 in
    record {
      cut = small;
      some = omega (arith, ltb-true 0 len b.0);
      divides = subst P (sym (one_shl (cut_of x r) 8 small)) (pow_pos (cut_of x r));
      gives = gives r len x (len - 1) (squeezed r x) b.1;
    }

pub cut : (r len x : ℕ) → r ≤ 5 → len ≤ 8 → x < 2 ^ len → (fives_of (window_of x r) ≡ 0 → ⊥) → fives_of (window_of x r) / 2 ^ first_of x r ≡ 1 → (cut_of x r ≡ len → ⊥)
    → Cut r len x
cut r len x few short small some once other =
    cut_by r len x (other_so (cut_of x r) len (gives_told r len x len x) (cut_told r len x) other (eqb_tells (cut_of x r) len) (five r len x few short small some once))

pub gives_data : (r len x n y : ℕ) (h : List Bool) → Gives r len x n y → r ≡ trailing h → taken_out (reverse (low_bits len x) ++ h) ≡ reverse (low_bits n y) ++ taken_out h
gives_data r len x n y h is count = (comes (low_bits len x) h r count).data_bits ∙ ap (λ l. reverse l ++ taken_out h) is.data_bits

pub gives_ones : (r len x n y : ℕ) (h : List Bool) → Gives r len x n y → r ≡ trailing h → after_of r len x ≡ trailing (reverse (low_bits len x) ++ h)
gives_ones r len x n y h is count = sym is.ones ∙ (comes (low_bits len x) h r count).ones

pub gives_six : (r len x n y : ℕ) (h : List Bool) → Gives r len x n y → r ≡ trailing h → has_six (reverse (low_bits len x) ++ h) ≡ has_six h
gives_six r len x n y h is count = (comes (low_bits len x) h r count).six is.six

-- ---- eight bits without five 1s in a row
abbrev eight_told : ℕ → ℕ → Bool
eight_told r x = cond (fives_of (window_of x r) == 0) (leading_ones w8 x == after_of r 8 x) true

eights : all_below (λ r. all_below (λ x. eight_told r x) 256) 6 ≡ true
unfolding count_leading_zeros
eights = refl

pub eight_ones : (r x : ℕ) → r ≤ 5 → x < 256 → fives_of (window_of x r) ≡ 0 → leading_ones w8 x ≡ after_of r 8 x
eight_ones r x few small none =
    eqb-true (leading_ones w8 x) (after_of r 8 x)
    (if_so (fives_of (window_of x r)) (leading_ones w8 x == after_of r 8 x) true none
    (at_one (λ y. eight_told r y) 256 x (at_one (λ q. all_below (λ y. eight_told q y) 256) 6 r eights (omega arith)) small))
