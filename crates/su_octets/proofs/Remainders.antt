-- Polynomials modulo the generator: each polynomial of sixteen bits or more has one remainder, which
-- `remainder` computes from the lowest power up.
use Rattle.std.proofs.Common.{◌≡◌, ℕ, ◌+◌, zero, suc, Bool, true, false, List, [], ◌∷◌, length, refl, sym, ap, ◌∙◌, arith}
use Rattle.su_octets.specs.Polynomial.{odd_sum, plus, scale, times, generator, IsRemainder}

-- ---- sums of bits
pub xor_none : (a : Bool) → odd_sum a false ≡ a
xor_none true = refl
xor_none false = refl

pub xor_twice : (a : Bool) → odd_sum true (odd_sum true a) ≡ a
xor_twice true = refl
xor_twice false = refl

pub xor_comm : (a b : Bool) → odd_sum a b ≡ odd_sum b a
xor_comm true true = refl
xor_comm true false = refl
xor_comm false true = refl
xor_comm false false = refl

pub xor_assoc : (a b c : Bool) → odd_sum (odd_sum a b) c ≡ odd_sum a (odd_sum b c)
xor_assoc false b c = refl
xor_assoc true true c = sym (xor_twice c)
xor_assoc true false c = refl

-- the middle two of four operands are exchanged
pub xor_cross : (a b c d : Bool) → odd_sum (odd_sum a b) (odd_sum c d) ≡ odd_sum (odd_sum a c) (odd_sum b d)
xor_cross a b c d =
    xor_assoc a b (odd_sum c d) ∙ ap (λ x. odd_sum a x) (sym (xor_assoc b c d) ∙ ap (λ x. odd_sum x d) (xor_comm b c) ∙ xor_assoc c b d)
    ∙ sym (xor_assoc a c (odd_sum b d))

-- ---- sums of polynomials
pub plus_none : (p : List Bool) → plus p [] ≡ p
unfolding plus
plus_none [] = refl
plus_none (a ∷ p) = refl

pub plus_comm : (p q : List Bool) → plus p q ≡ plus q p
unfolding plus
plus_comm [] [] = refl
plus_comm [] (b ∷ q) = refl
plus_comm (a ∷ p) [] = refl
plus_comm (a ∷ p) (b ∷ q) = rw (xor_comm a b, plus_comm p q) refl

pub plus_assoc : (p q r : List Bool) → plus (plus p q) r ≡ plus p (plus q r)
unfolding plus
plus_assoc [] q r = refl
plus_assoc (a ∷ p) [] r = refl
plus_assoc (a ∷ p) (b ∷ q) [] = refl
plus_assoc (a ∷ p) (b ∷ q) (c ∷ r) = rw (xor_assoc a b c, plus_assoc p q r) refl

pub plus_cross : (p q r s : List Bool) → plus (plus p q) (plus r s) ≡ plus (plus p r) (plus q s)
plus_cross p q r s =
    plus_assoc p q (plus r s) ∙ ap (λ x. plus p x) (sym (plus_assoc q r s) ∙ ap (λ x. plus x s) (plus_comm q r) ∙ plus_assoc r q s)
    ∙ sym (plus_assoc p r (plus q s))

pub length-plus_same : (p q : List Bool) → length p ≡ length q → length (plus p q) ≡ length q
unfolding plus
length-plus_same [] q same = refl
length-plus_same (a ∷ p) [] same = same
length-plus_same (a ∷ p) (b ∷ q) same = let shorter : length p ≡ length q = omega arith in ap suc (length-plus_same p q shorter)

pub scale-odd_sum : (a b : Bool) (p : List Bool) → scale (odd_sum a b) p ≡ plus (scale a p) (scale b p)
unfolding scale plus
scale-odd_sum a b [] = refl
scale-odd_sum true true (true ∷ p) = ap (λ x. false ∷ x) (scale-odd_sum true true p)
scale-odd_sum true true (false ∷ p) = ap (λ x. false ∷ x) (scale-odd_sum true true p)
scale-odd_sum true false (true ∷ p) = ap (λ x. true ∷ x) (scale-odd_sum true false p)
scale-odd_sum true false (false ∷ p) = ap (λ x. false ∷ x) (scale-odd_sum true false p)
scale-odd_sum false true (true ∷ p) = ap (λ x. true ∷ x) (scale-odd_sum false true p)
scale-odd_sum false true (false ∷ p) = ap (λ x. false ∷ x) (scale-odd_sum false true p)
scale-odd_sum false false (x ∷ p) = ap (λ x. false ∷ x) (scale-odd_sum false false p)

pub times-plus : (p q g : List Bool) → times (plus p q) g ≡ plus (times p g) (times q g)
unfolding times plus
times-plus [] q g = refl
times-plus (a ∷ p) [] g = sym (plus_none (plus (scale a g) (false ∷ times p g)))
times-plus (a ∷ p) (b ∷ q) g =
    rw (scale-odd_sum a b g, times-plus p q g) (plus_cross (scale a g) (scale b g) (false ∷ times p g) (false ∷ times q g))

-- The remainder of a sum is the sum of the remainders.
pub remainders_add : (r s p q : List Bool) → IsRemainder r p → IsRemainder s q → IsRemainder (plus r s) (plus p q)
remainders_add r s p q of_p of_q = record {
  short = length-plus_same r s (of_p.short ∙ sym of_q.short) ∙ of_q.short;
  quotient = plus of_p.quotient of_q.quotient;
  differ =
      ap (λ x. plus x q) of_p.differ ∙ ap (λ x. plus (plus (times of_p.quotient generator) r) x) of_q.differ
      ∙ plus_cross (times of_p.quotient generator) r (times of_q.quotient generator) s
      ∙ ap (λ x. plus x (plus r s)) (sym (times-plus of_p.quotient of_q.quotient generator));
}

-- ---- sixteen bits, each named by its power
pub record Word : Type 0 where
  pub c0 : Bool
  pub c1 : Bool
  pub c2 : Bool
  pub c3 : Bool
  pub c4 : Bool
  pub c5 : Bool
  pub c6 : Bool
  pub c7 : Bool
  pub c8 : Bool
  pub c9 : Bool
  pub c10 : Bool
  pub c11 : Bool
  pub c12 : Bool
  pub c13 : Bool
  pub c14 : Bool
  pub c15 : Bool

abbrev pub bits : Word → List Bool
bits w = w.c0 ∷ w.c1 ∷ w.c2 ∷ w.c3 ∷ w.c4 ∷ w.c5 ∷ w.c6 ∷ w.c7 ∷ w.c8 ∷ w.c9 ∷ w.c10 ∷ w.c11 ∷ w.c12 ∷ w.c13 ∷ w.c14 ∷ w.c15 ∷ []

abbrev pub none : Word
none = record { c0 = false; c1 = false; c2 = false; c3 = false; c4 = false; c5 = false; c6 = false; c7 = false; c8 = false; c9 = false; c10 = false; c11 = false; c12 = false; c13 = false; c14 = false; c15 = false }

abbrev pub sum_of : Word → Word → Word
sum_of v w = record { c0 = odd_sum v.c0 w.c0; c1 = odd_sum v.c1 w.c1; c2 = odd_sum v.c2 w.c2; c3 = odd_sum v.c3 w.c3; c4 = odd_sum v.c4 w.c4; c5 = odd_sum v.c5 w.c5; c6 = odd_sum v.c6 w.c6; c7 = odd_sum v.c7 w.c7; c8 = odd_sum v.c8 w.c8; c9 = odd_sum v.c9 w.c9; c10 = odd_sum v.c10 w.c10; c11 = odd_sum v.c11 w.c11; c12 = odd_sum v.c12 w.c12; c13 = odd_sum v.c13 w.c13; c14 = odd_sum v.c14 w.c14; c15 = odd_sum v.c15 w.c15 }

-- the remainder of x times the word plus a lowest bit
abbrev pub push_low : Bool → Word → Word
push_low b w = record { c0 = odd_sum w.c15 b; c1 = w.c0; c2 = w.c1; c3 = w.c2; c4 = w.c3; c5 = odd_sum w.c15 w.c4; c6 = w.c5; c7 = w.c6; c8 = w.c7; c9 = w.c8; c10 = w.c9; c11 = w.c10; c12 = odd_sum w.c15 w.c11; c13 = w.c12; c14 = w.c13; c15 = w.c14 }

unfoldable pub remainder : List Bool → Word
remainder [] = none
remainder (b ∷ p) = push_low b (remainder p)

sum-push_low : (a b : Bool) (v w : Word) → sum_of (push_low a v) (push_low b w) ≡ push_low (odd_sum a b) (sum_of v w)
sum-push_low a b v w = rw (xor_cross v.c15 a w.c15 b, xor_cross v.c15 v.c4 w.c15 w.c4, xor_cross v.c15 v.c11 w.c15 w.c11) refl

sum-none : (w : Word) → sum_of w none ≡ w
sum-none w = simp xor_none

pub remainder-plus : (p q : List Bool) → remainder (plus p q) ≡ sum_of (remainder p) (remainder q)
unfolding remainder plus
remainder-plus [] q = refl
remainder-plus (a ∷ p) [] = sym (sum-none (push_low a (remainder p)))
remainder-plus (a ∷ p) (b ∷ q) = ap (λ w. push_low (odd_sum a b) w) (remainder-plus p q) ∙ sym (sum-push_low a b (remainder p) (remainder q))

remainder-generator : (a : Bool) → remainder (scale a generator) ≡ none
unfolding remainder scale generator
remainder-generator true = refl
remainder-generator false = refl

pub remainder-times : (q : List Bool) → remainder (times q generator) ≡ none
unfolding remainder times
remainder-times [] = refl
remainder-times (a ∷ q) = remainder-plus (scale a generator) (false ∷ times q generator)
    ∙ ap (λ w. sum_of w (push_low false (remainder (times q generator)))) (remainder-generator a)
    ∙ ap (λ w. sum_of none (push_low false w)) (remainder-times q)

pub remainder-bits : (w : Word) → remainder (bits w) ≡ w
unfolding remainder
remainder-bits w = refl

-- any sixteen bits are the bits of a word
pub word_of : (r : List Bool) → length r ≡ 16 → (w : Word) × (bits w ≡ r)
word_of (x0 ∷ x1 ∷ x2 ∷ x3 ∷ x4 ∷ x5 ∷ x6 ∷ x7 ∷ x8 ∷ x9 ∷ x10 ∷ x11 ∷ x12 ∷ x13 ∷ x14 ∷ x15 ∷ []) short = (record { c0 = x0; c1 = x1; c2 = x2; c3 = x3; c4 = x4; c5 = x5; c6 = x6; c7 = x7; c8 = x8; c9 = x9; c10 = x10; c11 = x11; c12 = x12; c13 = x13; c14 = x14; c15 = x15 }, refl)
word_of _ short = absurd (omega arith)

-- a polynomial has one remainder, which `remainder` computes
pub only_remainder : (r p : List Bool) → IsRemainder r p → r ≡ bits (remainder p)
only_remainder r p of_p =
    let sixteen : (w : Word) × (bits w ≡ r) = word_of r of_p.short in
    let same : remainder p ≡ sixteen.0 =
    ap remainder of_p.differ ∙ remainder-plus (times of_p.quotient generator) r
    ∙ ap (λ w. sum_of w (remainder r)) (remainder-times of_p.quotient)
    ∙ sym (ap remainder sixteen.1) ∙ remainder-bits sixteen.0 in
    sym sixteen.1 ∙ ap bits (sym same)

-- The generator (if the highest bit is set) plus the remainder is the word shifted by one bit.
cancels : (b c w0 w1 w2 w3 w4 w5 w6 w7 w8 w9 w10 w11 w12 w13 w14 : Bool) →
    plus (scale c generator) (odd_sum c b ∷ w0 ∷ w1 ∷ w2 ∷ w3 ∷ odd_sum c w4 ∷ w5 ∷ w6 ∷ w7 ∷ w8 ∷ w9 ∷ w10 ∷ odd_sum c w11 ∷ w12 ∷ w13 ∷ w14 ∷ []) ≡ b ∷ w0 ∷ w1 ∷ w2 ∷ w3 ∷ w4 ∷ w5 ∷ w6 ∷ w7 ∷ w8 ∷ w9 ∷ w10 ∷ w11 ∷ w12 ∷ w13 ∷ w14 ∷ c ∷ []
unfolding plus scale generator
cancels b true w0 w1 w2 w3 w4 w5 w6 w7 w8 w9 w10 w11 w12 w13 w14 = rw (xor_twice b, xor_twice w4, xor_twice w11) refl
cancels b false w0 w1 w2 w3 w4 w5 w6 w7 w8 w9 w10 w11 w12 w13 w14 = refl

divide_by : (n : ℕ) (p : List Bool) → length p ≡ n + 16 → (q : List Bool) × (p ≡ plus (times q generator) (bits (remainder p)))
unfolding times plus remainder
divide_by zero p long =
    let sixteen : (w : Word) × (bits w ≡ p) = word_of p (omega arith) in
    ([], sym sixteen.1 ∙ ap bits (sym (remainder-bits sixteen.0) ∙ ap remainder sixteen.1))
divide_by (suc n) [] long = absurd (omega arith)
divide_by (suc n) (b ∷ p) long =
    let rest : (q : List Bool) × (p ≡ plus (times q generator) (bits (remainder p))) = divide_by n p (omega arith) in
    let w : Word = remainder p in
    let t : List Bool = times rest.0 generator in (
      w.c15 ∷ rest.0,
      ap (λ x. b ∷ x) (rest.1 ∙ plus_comm t (bits w))
          ∙ ap (λ x. x ∷ plus (bits w) t) (sym (xor_none b))
          ∙ ap (λ x. plus x (false ∷ t)) (sym (cancels b w.c15 w.c0 w.c1 w.c2 w.c3 w.c4 w.c5 w.c6 w.c7 w.c8 w.c9 w.c10 w.c11 w.c12 w.c13 w.c14))
          ∙ plus_assoc (scale w.c15 generator) (bits (push_low b w)) (false ∷ t)
          ∙ ap (λ x. plus (scale w.c15 generator) x) (plus_comm (bits (push_low b w)) (false ∷ t))
          ∙ sym (plus_assoc (scale w.c15 generator) (false ∷ t) (bits (push_low b w))),
    )

pub is_remainder : (n : ℕ) (p : List Bool) → length p ≡ n + 16 → IsRemainder (bits (remainder p)) p
is_remainder n p long = record { short = refl; quotient = (divide_by n p long).0; differ = (divide_by n p long).1 }
