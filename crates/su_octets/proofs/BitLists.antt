-- Numbers and octets as lists of bits.
use Rattle.std.proofs.Common.{◌≡◌, ℕ, ◌+◌, ◌-◌, ◌*◌, ◌/◌, ◌%◌, ◌^◌, ◌<◌, zero, suc, not, List, [], ◌∷◌, ◌++◌, map, length, refl, sym, ap, ◌∙◌, arith, inl, inr, append_assoc}
use Rattle.std.specs.Prelude.{◌⊎◌, bit_xor, ◌==◌}
use Rattle.std.proofs.lemmas.Nat.{xor_shr, xor_mod, shr-shr, mod-pow-add}
use Rattle.std.proofs.lemmas.List.{length-append, append-nil}
use Rattle.su_octets.specs.Polynomial.{odd_sum, plus}
use Rattle.su_octets.specs.Bits.{low_bits, bits_of, AreOctets}
use Rattle.plain_laws.proofs.Numbers.{zero_or_one, same_parity}
use Rattle.plain_laws.proofs.Lists.{head_same, tail_same, front_same}

odd_parts : (x y : ℕ) → (x ≡ 0) ⊎ (x ≡ 1) → (y ≡ 0) ⊎ (y ≡ 1) → (bit_xor x y == 1) ≡ odd_sum (x == 1) (y == 1)
odd_parts x y (inl p) (inl q) = rw (p, q) refl
odd_parts x y (inl p) (inr q) = rw (p, q) refl
odd_parts x y (inr p) (inl q) = rw (p, q) refl
odd_parts x y (inr p) (inr q) = rw (p, q) refl

odd-xor : (a b : ℕ) → (bit_xor a b % 2 == 1) ≡ odd_sum (a % 2 == 1) (b % 2 == 1)
odd-xor a b = ap (λ n. n == 1) (xor_mod a b 1) ∙ odd_parts (a % 2) (b % 2) (zero_or_one (a % 2) (omega arith)) (zero_or_one (b % 2) (omega arith))

pub low_bits-xor : (k a b : ℕ) → low_bits k (bit_xor a b) ≡ plus (low_bits k a) (low_bits k b)
unfolding low_bits plus
low_bits-xor zero a b = refl
low_bits-xor (suc k) a b = rw (odd-xor a b, xor_shr a b 1, low_bits-xor k (a / 2) (b / 2)) refl

pub no_low_bits : (n : ℕ) → low_bits 0 n ≡ []
unfolding low_bits
no_low_bits n = refl

pub length-low_bits : (k n : ℕ) → length (low_bits k n) ≡ k
unfolding low_bits
length-low_bits zero n = refl
length-low_bits (suc k) n = ap suc (length-low_bits k (n / 2))

pub low_bits-split : (j k n : ℕ) → low_bits (j + k) n ≡ low_bits j n ++ low_bits k (n / 2 ^ j)
unfolding low_bits
low_bits-split zero k n = ap (λ i. low_bits i n) (let e : zero + k ≡ k = omega arith in e) ∙ ap (λ m. low_bits k m) (let e : n ≡ n / 1 = omega arith in e)
low_bits-split (suc j) k n = ap (λ i. low_bits i n) (let e : suc j + k ≡ suc (j + k) = omega arith in e)
    ∙ ap (λ bs. (n % 2 == 1) ∷ bs) (low_bits-split j k (n / 2))
    ∙ ap (λ m. (n % 2 == 1) ∷ (low_bits j (n / 2) ++ low_bits k m)) (shr-shr n 1 j ∙ ap (λ i. n / 2 ^ i) (let e : 1 + j ≡ suc j = omega arith in e))

other : (x : ℕ) → (x ≡ 0) ⊎ (x ≡ 1) → (1 - x == 1) ≡ not (x == 1)
other x (inl p) = rw p refl
other x (inr p) = rw p refl

pub low_bits-mod : (k n : ℕ) → low_bits k (n % 2 ^ k) ≡ low_bits k n
unfolding low_bits
low_bits-mod zero n = refl
low_bits-mod (suc k) n =
    let parts : n % 2 ^ (k + 1) ≡ (n / 2 % 2 ^ k) * 2 + n % 2 = mod-pow-add n k 1 in
    let same : n % 2 ^ suc k ≡ n % 2 ^ (k + 1) = ap (λ i. n % 2 ^ i) (let e : suc k ≡ k + 1 = omega arith in e) in
    let lowest : n % 2 ^ suc k % 2 ≡ n % 2 = omega (arith, parts, same) in
    let rest : n % 2 ^ suc k / 2 ≡ n / 2 % 2 ^ k = omega (arith, parts, same) in
    ap (λ m. (m == 1) ∷ low_bits k (n % 2 ^ suc k / 2)) lowest ∙ ap (λ m. (n % 2 == 1) ∷ low_bits k m) rest
    ∙ ap (λ bs. (n % 2 == 1) ∷ bs) (low_bits-mod k (n / 2))

pub low_bits-not : (k n : ℕ) → n < 2 ^ k → low_bits k (2 ^ k - 1 - n) ≡ map not (low_bits k n)
unfolding low_bits
low_bits-not zero n small = refl
low_bits-not (suc k) n small =
    let whole : 2 ^ suc k ≡ 2 * 2 ^ k = omega arith in
    let less : n / 2 < 2 ^ k = omega arith in
    let half : (2 ^ suc k - 1 - n) / 2 ≡ 2 ^ k - 1 - n / 2 = omega arith in
    let parity : (2 ^ suc k - 1 - n) % 2 ≡ 1 - n % 2 = omega arith in
    ap (λ m. (m == 1) ∷ low_bits k ((2 ^ suc k - 1 - n) / 2)) parity
    ∙ ap (λ b. b ∷ low_bits k ((2 ^ suc k - 1 - n) / 2)) (other (n % 2) (zero_or_one (n % 2) (omega arith)))
    ∙ ap (λ m. not (n % 2 == 1) ∷ low_bits k m) half
    ∙ ap (λ bs. not (n % 2 == 1) ∷ bs) (low_bits-not k (n / 2) less)

-- numbers of at most k bits are equal if their k low bits are
pub low_bits-same : (k a b : ℕ) → a < 2 ^ k → b < 2 ^ k → low_bits k a ≡ low_bits k b → a ≡ b
unfolding low_bits
low_bits-same zero a b a_small b_small same = omega arith
low_bits-same (suc k) a b a_small b_small same =
    let lowest : a % 2 ≡ b % 2 = same_parity (a % 2) (b % 2) (zero_or_one (a % 2) (omega arith)) (zero_or_one (b % 2) (omega arith)) (head_same _ _ _ _ same) in
    let rest : a / 2 ≡ b / 2 = low_bits-same k (a / 2) (b / 2) (omega arith) (omega arith) (tail_same _ _ _ _ same) in
    omega arith

pub octet_bits : (v : ℕ) → bits_of (v ∷ []) ≡ low_bits 8 v
unfolding bits_of
octet_bits v = append-nil (low_bits 8 v)

pub bits_of-append : (xs ys : List ℕ) → bits_of (xs ++ ys) ≡ bits_of xs ++ bits_of ys
unfolding bits_of
bits_of-append [] ys = refl
bits_of-append (x ∷ xs) ys = ap (λ bs. low_bits 8 x ++ bs) (bits_of-append xs ys) ∙ sym (append_assoc (low_bits 8 x) (bits_of xs) (bits_of ys))

pub length-bits_of : (xs : List ℕ) → length (bits_of xs) ≡ 8 * length xs
unfolding bits_of
length-bits_of [] = refl
length-bits_of (x ∷ xs) = length-append (low_bits 8 x) (bits_of xs) ∙ rw (length-low_bits 8 x, length-bits_of xs) (omega arith)

-- octets are equal if their bits are
pub bits_of-same : (xs ys : List ℕ) → AreOctets xs → AreOctets ys → length xs ≡ length ys → bits_of xs ≡ bits_of ys → xs ≡ ys
unfolding bits_of
bits_of-same [] [] x_fit y_fit long same = refl
bits_of-same [] (y ∷ ys) x_fit y_fit long same = absurd (omega arith)
bits_of-same (x ∷ xs) [] x_fit y_fit long same = absurd (omega arith)
bits_of-same (x ∷ xs) (y ∷ ys) x_fit y_fit long same =
    let parts : (low_bits 8 x ≡ low_bits 8 y) × (bits_of xs ≡ bits_of ys) = front_same (low_bits 8 x) (low_bits 8 y) (bits_of xs) (bits_of ys) (length-low_bits 8 x ∙ sym (length-low_bits 8 y)) same in
    let front : x ≡ y = low_bits-same 8 x y x_fit.0 y_fit.0 parts.0 in
    let rest : xs ≡ ys = bits_of-same xs ys x_fit.1 y_fit.1 (omega arith) parts.1 in
    cc
