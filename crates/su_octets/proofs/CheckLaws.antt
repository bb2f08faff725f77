-- Check octets: the complement of the register is the pair of check octets, and no other pair is.
use Rattle.std.proofs.Common.{◌≡◌, ℕ, ◌-◌, ◌/◌, ◌%◌, ◌^◌, ◌<◌, Bool, true, false, not, List, [], ◌∷◌, ◌++◌, map, length, reverse, refl, sym, ap, ◌∙◌, subst, arith}
use Rattle.std.proofs.lemmas.List.{reverse-reverse, length-reverse, append-nil}
use Rattle.su_octets.specs.Polynomial.{plus, IsRemainder}
use Rattle.su_octets.specs.Bits.{low_bits, bits_of}
use Rattle.su_octets.specs.Check.{raised, raised_ones, Check, content_polynomial}
use Rattle.su_octets.specs.Register.{Register}
use Rattle.su_octets.proofs.Remainders.{bits, remainder, remainder-plus, is_remainder, only_remainder, plus_comm, remainders_add}
use Rattle.su_octets.proofs.BitLists.{low_bits-split, low_bits-mod, low_bits-not, bits_of-same}
use Rattle.su_octets.proofs.Registers.{register_bits, dividend, length-ones, length-raised}

two_octets : (n : ℕ) → bits_of (n % 256 ∷ n / 256 % 256 ∷ []) ≡ low_bits 16 n
unfolding bits_of
two_octets n =
    ap (λ bs. bs ++ (low_bits 8 (n / 256 % 256) ++ [])) (low_bits-mod 8 n)
    ∙ ap (λ bs. low_bits 8 n ++ bs) (append-nil (low_bits 8 (n / 256 % 256)) ∙ low_bits-mod 8 (n / 256))
    ∙ sym (low_bits-split 8 8 n)

sum_bits : (sent : List Bool) → plus (bits (remainder (raised_ones (length sent)))) (bits (remainder (raised sent))) ≡ bits (remainder (dividend sent))
unfolding plus
sum_bits sent = plus_comm (bits (remainder (raised_ones (length sent)))) (bits (remainder (raised sent)))
    ∙ ap bits (sym (remainder-plus (raised sent) (raised_ones (length sent))))

pub check_of_register : (register : ℕ) (content : List ℕ) → register < 2 ^ 16 → Register register (reverse (bits_of content))
    → Check content ((65535 - register) % 256 ∷ (65535 - register) / 256 % 256 ∷ [])
check_of_register register content small holds =
    let sent : List Bool = reverse (bits_of content) in
    let long : length sent ≡ length (bits_of content) = length-reverse (bits_of content) in
    let v : ℕ = 65535 - register in
    record {
      first = bits (remainder (raised_ones (length (bits_of content))));
      first_remains = is_remainder (length (bits_of content)) (raised_ones (length (bits_of content))) (length-ones (length (bits_of content)));
      second = bits (remainder (raised sent));
      second_remains = is_remainder (length sent) (raised sent) (length-raised sent);
      complement =
          two_octets v ∙ low_bits-not 16 register small ∙ ap (map not)
          (register_bits register sent holds ∙ ap reverse (sym (sum_bits sent))
          ∙ ap (λ n. reverse (plus (bits (remainder (raised_ones n))) (bits (remainder (raised sent))))) long);
      two = refl;
      octets = (omega arith, (omega arith, tt));
    }

-- a content has one pair of check octets
pub one_check : (content a b : List ℕ) → Check content a → Check content b → a ≡ b
one_check content a b of_a of_b =
    let first : of_a.first ≡ of_b.first =
    only_remainder of_a.first (raised_ones (length (bits_of content))) of_a.first_remains
    ∙ sym (only_remainder of_b.first (raised_ones (length (bits_of content))) of_b.first_remains) in
    let second : of_a.second ≡ of_b.second =
    only_remainder of_a.second (raised (content_polynomial content)) of_a.second_remains
    ∙ sym (only_remainder of_b.second (raised (content_polynomial content)) of_b.second_remains) in
    bits_of-same a b of_a.octets of_b.octets (of_a.two ∙ sym of_b.two)
    (of_a.complement ∙ ap (λ p. map not (reverse (plus p of_a.second))) first
    ∙ ap (λ q. map not (reverse (plus of_b.first q))) second ∙ sym of_b.complement)

not_not : (bs : List Bool) → map not (map not bs) ≡ bs
not_not [] = refl
not_not (true ∷ bs) = ap (λ l. true ∷ l) (not_not bs)
not_not (false ∷ bs) = ap (λ l. false ∷ l) (not_not bs)

-- the complement of the check bits is the remainder of the sum of the two polynomials
pub check_is_one_remainder : (content check : List ℕ) → Check content check
    → IsRemainder (reverse (map not (bits_of check))) (plus (raised_ones (length (bits_of content))) (raised (content_polynomial content)))
check_is_one_remainder content check checked =
    let same : reverse (map not (bits_of check)) ≡ plus checked.first checked.second =
    ap (λ l. reverse (map not l)) checked.complement ∙ ap reverse (not_not (reverse (plus checked.first checked.second)))
    ∙ reverse-reverse (plus checked.first checked.second) in
    let P : List Bool → Type 0 = λ r. IsRemainder r (plus (raised_ones (length (bits_of content))) (raised (content_polynomial content))) in
    subst P (sym same)
    (remainders_add checked.first checked.second (raised_ones (length (bits_of content))) (raised (content_polynomial content)) checked.first_remains checked.second_remains)
