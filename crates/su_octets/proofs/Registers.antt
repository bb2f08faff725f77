-- The shift register holds the remainder of what was sent so far.
use Rattle.std.proofs.Common.{◌≡◌, ℕ, ◌+◌, ◌<◌, zero, suc, Bool, false, List, [], ◌∷◌, ◌++◌, length, reverse, replicate, get_or, take, refl, sym, ap, ◌∙◌, subst, arith}
use Rattle.std.proofs.lemmas.List.{reverse-reverse, reverse-append, length-append, append-nil, take_more}
use Rattle.su_octets.specs.Polynomial.{odd_sum, plus, IsRemainder}
use Rattle.su_octets.specs.Bits.{low_bits, bits_of}
use Rattle.su_octets.specs.Check.{raised, raised_ones}
use Rattle.su_octets.specs.Register.{Register}
use Rattle.su_octets.proofs.Remainders.{Word, bits, sum_of, push_low, remainder, remainder-plus, remainder-bits, is_remainder, only_remainder, plus_none, plus_comm, plus_assoc, xor_none}
use Rattle.su_octets.proofs.BitLists.{bits_of-append}

-- the polynomial of which the register holds the remainder
abbrev pub dividend : List Bool → List Bool
dividend sent = plus (raised sent) (raised_ones (length sent))

-- the register word after one more bit
abbrev pub step : Bool → Word → Word
step b w = record { c0 = odd_sum w.c15 b; c1 = w.c0; c2 = w.c1; c3 = w.c2; c4 = w.c3; c5 = odd_sum (odd_sum w.c15 b) w.c4; c6 = w.c5; c7 = w.c6; c8 = w.c7; c9 = w.c8; c10 = w.c9; c11 = w.c10; c12 = odd_sum (odd_sum w.c15 b) w.c11; c13 = w.c12; c14 = w.c13; c15 = w.c14 }

abbrev top : Bool → Word
top b = record { c0 = false; c1 = false; c2 = false; c3 = false; c4 = false; c5 = false; c6 = false; c7 = false; c8 = false; c9 = false; c10 = false; c11 = false; c12 = false; c13 = false; c14 = false; c15 = b }

step-push_low : (b : Bool) (w : Word) → push_low false (sum_of w (top b)) ≡ step b w
step-push_low b w = simp xor_none

split_sum : (b : Bool) (sent : List Bool) → replicate 15 false ++ b ∷ sent ≡ plus (raised sent) (bits (top b))
unfolding plus
split_sum b sent = ap (λ s. replicate 15 false ++ b ∷ s) (sym (plus_none sent))

dividend-cons : (b : Bool) (sent : List Bool) → dividend (b ∷ sent) ≡ false ∷ plus (dividend sent) (bits (top b))
unfolding plus
dividend-cons b sent =
    ap (λ p. false ∷ plus p (raised_ones (length sent))) (split_sum b sent)
    ∙ ap (λ p. false ∷ p)
    (plus_assoc (raised sent) (bits (top b)) (raised_ones (length sent))
    ∙ ap (λ p. plus (raised sent) p) (plus_comm (bits (top b)) (raised_ones (length sent)))
    ∙ sym (plus_assoc (raised sent) (raised_ones (length sent)) (bits (top b))))

pub remainder-step : (b : Bool) (sent : List Bool) → remainder (dividend (b ∷ sent)) ≡ step b (remainder (dividend sent))
unfolding remainder
remainder-step b sent =
    ap remainder (dividend-cons b sent)
    ∙ ap (λ w. push_low false w) (remainder-plus (dividend sent) (bits (top b)) ∙ ap (λ w. sum_of (remainder (dividend sent)) w) (remainder-bits (top b)))
    ∙ step-push_low b (remainder (dividend sent))

pub length-ones : (n : ℕ) → length (raised_ones n) ≡ n + 16
length-ones zero = refl
length-ones (suc n) = omega (arith, length-ones n)

length-plus : (p q : List Bool) (n : ℕ) → length p ≡ n → length q ≡ n → length (plus p q) ≡ n
unfolding plus
length-plus [] q n p_long q_long = q_long
length-plus (a ∷ p) [] n p_long q_long = p_long
length-plus (a ∷ p) (b ∷ q) zero p_long q_long = absurd (omega arith)
length-plus (a ∷ p) (b ∷ q) (suc n) p_long q_long = ap suc (length-plus p q n (omega arith) (omega arith))

pub length-raised : (sent : List Bool) → length (raised sent) ≡ length sent + 16
length-raised sent = length-append (replicate 16 false) sent ∙ omega arith

length-dividend : (sent : List Bool) → length (dividend sent) ≡ length sent + 16
length-dividend sent = length-plus (raised sent) (raised_ones (length sent)) (length sent + 16) (length-raised sent) (length-ones (length sent))

-- the bits of the register in order of transmission
pub register_bits : (register : ℕ) (sent : List Bool) → Register register sent → low_bits 16 register ≡ reverse (bits (remainder (dividend sent)))
unfolding Register
register_bits register sent holds =
    sym (reverse-reverse (low_bits 16 register)) ∙ ap reverse (only_remainder (reverse (low_bits 16 register)) (dividend sent) holds)

pub register_of_bits : (register : ℕ) (sent : List Bool) → low_bits 16 register ≡ reverse (bits (remainder (dividend sent))) → Register register sent
unfolding Register
register_of_bits register sent same =
    let P : List Bool → Type 0 = λ r. IsRemainder r (dividend sent) in
    subst P (sym (ap reverse same ∙ reverse-reverse (bits (remainder (dividend sent))))) (is_remainder (length sent) (dividend sent) (length-dividend sent))

pub register_start : Register 65535 []
unfolding low_bits remainder plus
register_start = register_of_bits 65535 [] refl

pub register_empty : Register 65535 (reverse (bits_of []))
unfolding bits_of
register_empty = register_start

pub register_octet : (i register : ℕ) (content : List ℕ) → i < length content
    → Register register (reverse (low_bits 8 (get_or content i 0)) ++ reverse (bits_of (take i content))) → Register register (reverse (bits_of (take (i + 1) content)))
unfolding bits_of
register_octet i register content within holds =
    let P : List Bool → Type 0 = λ bs. Register register bs in
    subst P (sym (ap (λ xs. reverse (bits_of xs)) (take_more content i 0 within)
    ∙ ap reverse (bits_of-append (take i content) (get_or content i 0 ∷ []) ∙ ap (λ bs. bits_of (take i content) ++ bs) (append-nil (low_bits 8 (get_or content i 0))))
    ∙ reverse-append (bits_of (take i content)) (low_bits 8 (get_or content i 0)))) holds
