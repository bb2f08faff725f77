-- Counting the line bits of a unit, bit by bit.
use Rattle.std.proofs.Common.{◌≡◌, ℕ, suc, ◌+◌, ◌/◌, ◌%◌, ◌^◌, ◌<◌, ◌==◌, Bool, true, false, List, [], ◌∷◌, ◌++◌, length, reverse, take, get_or, refl, ap, sym, ◌∙◌, subst, arith, inl, inr}
use Rattle.std.specs.Prelude.{bit_and}
use Rattle.std.proofs.lemmas.Nat.Bits.{shr_and_one}
use Rattle.std.proofs.lemmas.List.{reverse-append, take_more, append-nil}
use Rattle.std.proofs.lemmas.Bool.{cases_eq, eq-eqb, ne_eqb}
use Rattle.su_octets.specs.Bits.{low_bits, bits_of}
use Rattle.bit_line.specs.Stuffing.{trailing, with_zero, stuffed}
use Rattle.mtp2_frame.specs.declared.line_bits.LineBits.{LineBits}
use Rattle.mtp2_frame.specs.LineBits.{Counts}
use Rattle.su_octets.proofs.BitLists.{low_bits-split, bits_of-append}

pub counts_zero : (sent : List Bool) (count : ℕ) (line : LineBits) → Counts sent line → count ≡ line.count + 1
    → Counts (false ∷ sent) (record { count = count; ones = 0 })
unfolding stuffed with_zero trailing
counts_zero sent count line held more = record {
  count = omega (arith, more, held.count);
  ones = refl;
}

-- the next number is five exactly if this one is four
suc_five : (n : ℕ) → (suc n == 5) ≡ (n == 4)
suc_five n = elim (cases_eq n 4) [
  | inl e ↦ eq-eqb (suc n) 5 (omega (arith, e)) ∙ sym (eq-eqb n 4 e)
  | inr ne ↦ ne_eqb (suc n) 5 (λ e. ne (omega (arith, e))) ∙ sym (ne_eqb n 4 ne)
]

pub counts_one : (sent : List Bool) (line : LineBits) → Counts sent line → (line.ones == 4) ≡ false
    → Counts (true ∷ sent) (record { count = line.count + 1; ones = line.ones + 1 })
unfolding stuffed with_zero trailing
counts_one sent line held few =
    let test : (suc (trailing (stuffed sent)) == 5) ≡ false = suc_five (trailing (stuffed sent)) ∙ ap (λ n. n == 4) (sym held.ones) ∙ few in
    record {
      count = rw test (omega (arith, held.count));
      ones = rw test (omega (arith, held.ones));
    }

pub counts_fifth : (sent : List Bool) (line : LineBits) → Counts sent line → line.ones ≡ 4
    → Counts (true ∷ sent) (record { count = line.count + 2; ones = 0 })
unfolding stuffed with_zero trailing
counts_fifth sent line held fifth =
    let test : (suc (trailing (stuffed sent)) == 5) ≡ true = suc_five (trailing (stuffed sent)) ∙ ap (λ n. n == 4) (sym held.ones ∙ fifth) in
    record {
      count = rw test (omega (arith, held.count));
      ones = rw test refl;
    }

-- a bit of an octet, and the bits before it
pub next_bit : (k octet : ℕ) (sent : List Bool)
    → reverse (low_bits (k + 1) octet) ++ sent ≡ (octet / 2 ^ k % 2 == 1) ∷ (reverse (low_bits k octet) ++ sent)
unfolding low_bits
next_bit k octet sent =
    ap (λ bs. reverse bs ++ sent) (low_bits-split k 1 octet)
    ∙ ap (λ bs. bs ++ sent) (reverse-append (low_bits k octet) (low_bits 1 (octet / 2 ^ k)))

pub counts_none : (octet : ℕ) (sent : List Bool) (line : LineBits) → Counts sent line → Counts (reverse (low_bits 0 octet) ++ sent) line
unfolding low_bits
counts_none octet sent line held = held

pub counts_bit : (k octet : ℕ) (sent : List Bool) (line : LineBits) → Counts ((bit_and (octet / 2 ^ k) 1 == 1) ∷ (reverse (low_bits k octet) ++ sent)) line
    → Counts (reverse (low_bits (k + 1) octet) ++ sent) line
counts_bit k octet sent line held =
    let P : List Bool → Type 0 = λ h. Counts h line in
    subst P (sym (next_bit k octet sent ∙ ap (λ n. (n == 1) ∷ (reverse (low_bits k octet) ++ sent)) (sym (shr_and_one octet k)))) held

pub counts_empty : Counts (reverse (bits_of [])) (record { count = 0; ones = 0 })
unfolding bits_of stuffed trailing
counts_empty = record { count = refl; ones = refl }

-- one more octet
pub counts_octet : (i : ℕ) (octets : List ℕ) (line : LineBits) → i < length octets
    → Counts (reverse (low_bits 8 (get_or octets i 0)) ++ reverse (bits_of (take i octets))) line → Counts (reverse (bits_of (take (i + 1) octets))) line
unfolding bits_of
counts_octet i octets line within held =
    let P : List Bool → Type 0 = λ h. Counts h line in
    let all : reverse (bits_of (take (i + 1) octets)) ≡ reverse (low_bits 8 (get_or octets i 0)) ++ reverse (bits_of (take i octets)) =
    ap (λ os. reverse (bits_of os)) (take_more octets i 0 within)
    ∙ ap reverse (bits_of-append (take i octets) (get_or octets i 0 ∷ []) ∙ ap (λ bs. bits_of (take i octets) ++ bs) (append-nil (low_bits 8 (get_or octets i 0))))
    ∙ reverse-append (bits_of (take i octets)) (low_bits 8 (get_or octets i 0)) in
    subst P (sym all) held
