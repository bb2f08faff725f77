-- Numbers and octets as lists of bits.
use Rattle.std.proofs.Common.{◌≡◌, ℕ, ◌+◌, ◌*◌, ◌/◌, ◌%◌, ◌^◌, ◌<◌, Bool, true, false, List, [], ◌∷◌, ◌++◌, reverse, sym, ap, ◌∙◌, arith}
use Rattle.std.specs.Prelude.{◌==◌}
use Rattle.std.proofs.lemmas.Nat.{shr_high, mod_low}
use Rattle.std.proofs.lemmas.List.{reverse-append}
use Rattle.su_octets.specs.Bits.{low_bits}
use Rattle.su_octets.proofs.BitLists.{low_bits-split, low_bits-mod}
use Rattle.plain_laws.proofs.Numbers.{div_small}

pub reverse-cons : (b : Bool) (h : List Bool) → reverse (b ∷ h) ≡ reverse h ++ b ∷ []
reverse-cons b h = reverse-append (b ∷ []) h

-- the low bits of a number and one more bit
low_bits-more : (k n : ℕ) (b : Bool) → (n / 2 ^ k % 2 == 1) ≡ b → low_bits (k + 1) n ≡ low_bits k n ++ b ∷ []
unfolding low_bits
low_bits-more k n b is = low_bits-split k 1 n ∙ ap (λ c. low_bits k n ++ c ∷ []) is

pub low_bits-zero : (k n : ℕ) → n < 2 ^ k → low_bits (k + 1) n ≡ low_bits k n ++ false ∷ []
low_bits-zero k n small = low_bits-more k n false (ap (λ m. m % 2 == 1) (let e : n / 2 ^ k ≡ 0 = div_small n k small in e))

pub low_bits-one : (k n : ℕ) → n < 2 ^ k → low_bits (k + 1) (n + 2 ^ k) ≡ low_bits k n ++ true ∷ []
low_bits-one k n small =
    let swap : n + 2 ^ k ≡ 1 * 2 ^ k + n = omega arith in
    let high : (n + 2 ^ k) / 2 ^ k ≡ 1 = ap (λ m. m / 2 ^ k) swap ∙ shr_high 1 k n small in
    let low : (n + 2 ^ k) % 2 ^ k ≡ n = ap (λ m. m % 2 ^ k) swap ∙ mod_low 1 k n small in
    low_bits-more k (n + 2 ^ k) true (ap (λ m. m % 2 == 1) high)
    ∙ ap (λ l. l ++ true ∷ []) (sym (low_bits-mod k (n + 2 ^ k)) ∙ ap (λ m. low_bits k m) low)
