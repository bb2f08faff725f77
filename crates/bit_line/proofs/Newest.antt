-- The newest seven bits, as a list and as a number with the oldest of them lowest.
use Rattle.std.proofs.Common.{◌≡◌, ℕ, ◌+◌, ◌*◌, ◌/◌, ◌%◌, ◌^◌, ◌<◌, ◌≤◌, zero, suc, Bool, true, false, cond, List, [], ◌∷◌, ◌++◌, length, reverse, take, drop, refl, sym, ap, ◌∙◌, arith}
use Rattle.std.specs.Prelude.{◌==◌}
use Rattle.std.proofs.lemmas.Nat.{shr_high, mod_low}
use Rattle.std.proofs.lemmas.List.{reverse-append, reverse-reverse, length-reverse, length-append}
use Rattle.su_octets.specs.Bits.{low_bits}
use Rattle.bit_line.specs.Flags.{six_ones}
use Rattle.bit_line.specs.Deframing.{newest, seventh}
use Rattle.su_octets.proofs.BitLists.{length-low_bits, low_bits-split, low_bits-mod, low_bits-same}
use Rattle.std.proofs.lemmas.Bool.{false_from_ne_true as isnt_true}
use Rattle.plain_laws.proofs.Lists.{head_same, front_same}

-- ---- the newest bits after more bits
take-newest : (n m : ℕ) (h : List Bool) → n ≤ m → take n (newest m h) ≡ newest n h
unfolding newest
take-newest zero m h few = refl
take-newest (suc n) zero h few = absurd (omega arith)
take-newest (suc n) (suc m) [] few = ap (λ l. true ∷ l) (take-newest n m [] (omega arith))
take-newest (suc n) (suc m) (b ∷ h) few = ap (λ l. b ∷ l) (take-newest n m h (omega arith))

pub newest-behind : (n m : ℕ) (k h : List Bool) → n ≤ m → take n (k ++ newest m h) ≡ newest n (k ++ h)
unfolding newest
newest-behind n m [] h few = take-newest n m h few
newest-behind zero m (b ∷ k) h few = refl
newest-behind (suc n) m (b ∷ k) h few = ap (λ l. b ∷ l) (newest-behind n m k h (omega arith))

pub length-newest : (n : ℕ) (h : List Bool) → length (newest n h) ≡ n
unfolding newest
length-newest zero h = refl
length-newest (suc n) [] = ap suc (length-newest n [])
length-newest (suc n) (b ∷ h) = ap suc (length-newest n h)

take_drop : (n : ℕ) (l : List Bool) → take n l ++ drop n l ≡ l
take_drop zero l = refl
take_drop (suc n) [] = refl
take_drop (suc n) (b ∷ l) = ap (λ r. b ∷ r) (take_drop n l)

-- ---- a window: seven bits and the bits after them
pub record Window (recent bits m : ℕ) (h : List Bool) : Type 0 where
  pub late : low_bits m (recent + bits * 128) ≡ reverse (drop 7 (reverse (low_bits m bits) ++ newest 7 h))
  pub next : low_bits 7 ((recent + bits * 128) / 2 ^ m) ≡ reverse (newest 7 (reverse (low_bits m bits) ++ h))

window_bits : (recent bits m : ℕ) → recent < 128 → low_bits (m + 7) (recent + bits * 128) ≡ low_bits 7 recent ++ low_bits m bits
window_bits recent bits m small =
    let w : ℕ = recent + bits * 128 in
    let swap : w ≡ bits * 2 ^ 7 + recent = omega arith in
    let high : w / 2 ^ 7 ≡ bits = ap (λ n. n / 2 ^ 7) swap ∙ shr_high bits 7 recent small in
    let low : w % 2 ^ 7 ≡ recent = ap (λ n. n % 2 ^ 7) swap ∙ mod_low bits 7 recent small in
    ap (λ n. low_bits n w) (let e : m + 7 ≡ 7 + m = omega arith in e) ∙ low_bits-split 7 m w
    ∙ ap (λ l. l ++ low_bits m (w / 2 ^ 7)) (sym (low_bits-mod 7 w) ∙ ap (λ n. low_bits 7 n) low)
    ∙ ap (λ n. low_bits 7 recent ++ low_bits m n) high

pub window : (recent bits m : ℕ) (h : List Bool) → recent < 128 → low_bits 7 recent ≡ reverse (newest 7 h) → Window recent bits m h
window recent bits m h small is =
    let w : ℕ = recent + bits * 128 in
    let k : List Bool = reverse (low_bits m bits) in
    let x : List Bool = k ++ newest 7 h in
    let all : low_bits m w ++ low_bits 7 (w / 2 ^ m) ≡ reverse (drop 7 x) ++ reverse (take 7 x) =
    sym (low_bits-split m 7 w) ∙ window_bits recent bits m small ∙ ap (λ l. l ++ low_bits m bits) is
    ∙ ap (λ l. reverse (newest 7 h) ++ l) (sym (reverse-reverse (low_bits m bits))) ∙ sym (reverse-append k (newest 7 h))
    ∙ ap reverse (sym (take_drop 7 x)) ∙ reverse-append (take 7 x) (drop 7 x) in
    let short : length (take 7 x) ≡ 7 = ap length (newest-behind 7 7 k h (omega arith)) ∙ length-newest 7 (k ++ h) in
    let sum : length (low_bits m w) + length (low_bits 7 (w / 2 ^ m)) ≡ length (reverse (drop 7 x)) + length (reverse (take 7 x)) =
    sym (length-append (low_bits m w) (low_bits 7 (w / 2 ^ m))) ∙ ap length all ∙ length-append (reverse (drop 7 x)) (reverse (take 7 x)) in
    let long : length (low_bits m w) ≡ length (reverse (drop 7 x)) =
    omega (arith, sum, length-low_bits 7 (w / 2 ^ m), length-reverse (take 7 x), short) in
    let parts = front_same (low_bits m w) (reverse (drop 7 x)) (low_bits 7 (w / 2 ^ m)) (reverse (take 7 x)) long all in
    record { late = parts.0; next = parts.1 ∙ ap reverse (newest-behind 7 7 k h (omega arith)) }

one_bit : (b : Bool) → low_bits 1 (cond b 1 0) ≡ b ∷ []
unfolding low_bits
one_bit true = refl
one_bit false = refl

pub newest-next : (recent : ℕ) (b : Bool) (h : List Bool) → recent < 128 → low_bits 7 recent ≡ reverse (newest 7 h)
    → low_bits 7 (recent / 2 + 64 * cond b 1 0) ≡ reverse (newest 7 (b ∷ h))
newest-next recent b h small is =
    ap (λ n. low_bits 7 n) (let e : recent / 2 + 64 * cond b 1 0 ≡ (recent + cond b 1 0 * 128) / 2 ^ 1 = omega arith in e)
    ∙ (window recent (cond b 1 0) 1 h small is).next ∙ ap (λ l. reverse (newest 7 (reverse l ++ h))) (one_bit b)

-- the oldest of the seven bits
pub oldest : (recent : ℕ) (h : List Bool) → low_bits 7 recent ≡ reverse (newest 7 h) → (recent % 2 == 1) ≡ seventh h
unfolding low_bits newest seventh
oldest recent [] is = head_same _ _ _ _ is
oldest recent (b0 ∷ []) is = head_same _ _ _ _ is
oldest recent (b0 ∷ b1 ∷ []) is = head_same _ _ _ _ is
oldest recent (b0 ∷ b1 ∷ b2 ∷ []) is = head_same _ _ _ _ is
oldest recent (b0 ∷ b1 ∷ b2 ∷ b3 ∷ []) is = head_same _ _ _ _ is
oldest recent (b0 ∷ b1 ∷ b2 ∷ b3 ∷ b4 ∷ []) is = head_same _ _ _ _ is
oldest recent (b0 ∷ b1 ∷ b2 ∷ b3 ∷ b4 ∷ b5 ∷ []) is = head_same _ _ _ _ is
oldest recent (b0 ∷ b1 ∷ b2 ∷ b3 ∷ b4 ∷ b5 ∷ b6 ∷ h) is = head_same _ _ _ _ is

-- ---- a 0 and then six 1s are the number 126
abbrev six : List Bool
six = true ∷ true ∷ true ∷ true ∷ true ∷ true ∷ false ∷ []

six_bits : low_bits 7 126 ≡ reverse six
unfolding low_bits
six_bits = refl

six_of : (h : List Bool) → newest 7 h ≡ six → six_ones h ≡ true
unfolding six_ones newest
six_of [] is = absurd (let e : true ∷ true ∷ true ∷ true ∷ true ∷ true ∷ true ∷ [] ≡ six = is in cc)
six_of (false ∷ h) is = absurd (let e : false ∷ newest 6 h ≡ six = is in cc)
six_of (true ∷ []) is = absurd (let e : true ∷ true ∷ true ∷ true ∷ true ∷ true ∷ true ∷ [] ≡ six = is in cc)
six_of (true ∷ false ∷ h) is = absurd (let e : true ∷ false ∷ newest 5 h ≡ six = is in cc)
six_of (true ∷ true ∷ []) is = absurd (let e : true ∷ true ∷ true ∷ true ∷ true ∷ true ∷ true ∷ [] ≡ six = is in cc)
six_of (true ∷ true ∷ false ∷ h) is = absurd (let e : true ∷ true ∷ false ∷ newest 4 h ≡ six = is in cc)
six_of (true ∷ true ∷ true ∷ []) is = absurd (let e : true ∷ true ∷ true ∷ true ∷ true ∷ true ∷ true ∷ [] ≡ six = is in cc)
six_of (true ∷ true ∷ true ∷ false ∷ h) is = absurd (let e : true ∷ true ∷ true ∷ false ∷ newest 3 h ≡ six = is in cc)
six_of (true ∷ true ∷ true ∷ true ∷ []) is = absurd (let e : true ∷ true ∷ true ∷ true ∷ true ∷ true ∷ true ∷ [] ≡ six = is in cc)
six_of (true ∷ true ∷ true ∷ true ∷ false ∷ h) is = absurd (let e : true ∷ true ∷ true ∷ true ∷ false ∷ newest 2 h ≡ six = is in cc)
six_of (true ∷ true ∷ true ∷ true ∷ true ∷ []) is = absurd (let e : true ∷ true ∷ true ∷ true ∷ true ∷ true ∷ true ∷ [] ≡ six = is in cc)
six_of (true ∷ true ∷ true ∷ true ∷ true ∷ false ∷ h) is = absurd (let e : true ∷ true ∷ true ∷ true ∷ true ∷ false ∷ newest 1 h ≡ six = is in cc)
six_of (true ∷ true ∷ true ∷ true ∷ true ∷ true ∷ []) is = absurd (let e : true ∷ true ∷ true ∷ true ∷ true ∷ true ∷ true ∷ [] ≡ six = is in cc)
six_of (true ∷ true ∷ true ∷ true ∷ true ∷ true ∷ false ∷ h) is = refl
six_of (true ∷ true ∷ true ∷ true ∷ true ∷ true ∷ true ∷ h) is = absurd (let e : true ∷ true ∷ true ∷ true ∷ true ∷ true ∷ true ∷ newest 0 h ≡ six = is in cc)

of_six : (h : List Bool) → six_ones h ≡ true → newest 7 h ≡ six
unfolding six_ones newest
of_six (true ∷ true ∷ true ∷ true ∷ true ∷ true ∷ false ∷ h) is = refl
of_six _ is = absurd (let e : false ≡ true = is in cc)

pub six_when : (recent : ℕ) (h : List Bool) → low_bits 7 recent ≡ reverse (newest 7 h) → recent ≡ 126 → six_ones h ≡ true
six_when recent h is all =
    six_of h (sym (reverse-reverse (newest 7 h)) ∙ ap reverse (sym is ∙ ap (λ n. low_bits 7 n) all ∙ six_bits) ∙ reverse-reverse six)

pub no_six_when : (recent : ℕ) (h : List Bool) → recent < 128 → low_bits 7 recent ≡ reverse (newest 7 h) → (recent ≡ 126 → ⊥) → six_ones h ≡ false
no_six_when recent h small is other =
    isnt_true (six_ones h) (λ all. other (low_bits-same 7 recent 126 small (omega arith) (is ∙ ap reverse (of_six h all) ∙ sym six_bits)))

pub newest-none : low_bits 7 127 ≡ reverse (newest 7 [])
unfolding low_bits newest
newest-none = refl

-- the newest seven bits after the last 0 of a flag, and after a seventh 1
pub newest-flag : (recent : ℕ) (h : List Bool) → low_bits 7 recent ≡ reverse (newest 7 h) → recent ≡ 126 → low_bits 7 63 ≡ reverse (newest 7 (false ∷ h))
newest-flag recent h is all =
    ap (λ n. low_bits 7 n) (let e : 63 ≡ recent / 2 + 64 * 0 = omega (arith, all) in e) ∙ newest-next recent false h (omega (arith, all)) is

pub newest-seven : (recent : ℕ) (h : List Bool) → low_bits 7 recent ≡ reverse (newest 7 h) → recent ≡ 126 → low_bits 7 127 ≡ reverse (newest 7 (true ∷ h))
newest-seven recent h is all =
    ap (λ n. low_bits 7 n) (let e : 127 ≡ recent / 2 + 64 * 1 = omega (arith, all) in e) ∙ newest-next recent true h (omega (arith, all)) is
