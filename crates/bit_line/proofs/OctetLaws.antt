-- Octets that are sent whole: eight bits after those of a part, and octets without five 1s in a row.
use Rattle.std.proofs.Common.{◌≡◌, ℕ, ◌+◌, ◌-◌, ◌*◌, ◌/◌, ◌%◌, ◌^◌, ◌<◌, zero, suc, Bool, true, false, cond, List, [], ◌∷◌, ◌++◌, reverse, refl, sym, ap, ◌∙◌, arith, subst, append_assoc, inl, inr}
use Rattle.std.specs.Prelude.{◌==◌, ◌&&◌, ◌⊎◌, nat_lt, nat_le, min, bit_and}
use Rattle.std.specs.Int.{leading_ones, trailing_zeros, w8, w16}
use Rattle.std.specs.Bool.{beq}
use Rattle.std.proofs.lemmas.Nat.{shr_high, mod_low, shl_whole, one_shl, pow_pos}
use Rattle.std.proofs.lemmas.List.{reverse-reverse, reverse-append}
use Rattle.std.proofs.lemmas.Bool.{eqb-true, ltb-true, and_parts as both}
use Rattle.std.proofs.lemmas.Bool.Decides.{eqb_tells}
use lib.Count.{count_leading_zeros, count_trailing_zeros}
use Rattle.su_octets.specs.Bits.{low_bits, bits_of}
use Rattle.bit_line.specs.Parts.{Packed}
use Rattle.bit_line.specs.Stuffing.{trailing, stuffed}
use Rattle.bit_line.proofs.BitLists.{reverse-cons}
use Rattle.bit_line.proofs.SendLaws.{stuffed-when_zero, trailing-when_zero, stuffed-when_five, trailing-when_five, stuffed-when_other, trailing-when_other}
use Rattle.su_octets.proofs.BitLists.{low_bits-split, low_bits-mod, bits_of-append, octet_bits}

-- ---- eight bits after those of a part
joined : (bits len octet : ℕ) → bits < 2 ^ len → low_bits 8 ((bits + octet * 2 ^ len) % 256) ++ low_bits len ((bits + octet * 2 ^ len) / 256) ≡ low_bits len bits ++ low_bits 8 octet
joined bits len octet fits =
    let n : ℕ = bits + octet * 2 ^ len in
    let swap : n ≡ octet * 2 ^ len + bits = omega arith in
    let high : n / 2 ^ len ≡ octet = ap (λ m. m / 2 ^ len) swap ∙ shr_high octet len bits fits in
    let low : n % 2 ^ len ≡ bits = ap (λ m. m % 2 ^ len) swap ∙ mod_low octet len bits fits in
    ap (λ l. l ++ low_bits len (n / 256)) (low_bits-mod 8 n) ∙ sym (low_bits-split 8 len n) ∙ ap (λ k. low_bits k n) (let e : 8 + len ≡ len + 8 = omega arith in e)
    ∙ low_bits-split len 8 n ∙ ap (λ l. l ++ low_bits 8 (n / 2 ^ len)) (sym (low_bits-mod len n) ∙ ap (λ m. low_bits len m) low)
    ∙ ap (λ m. low_bits len bits ++ low_bits 8 m) high

packed_eight : (octets : List ℕ) (bits len octet : ℕ) (h : List Bool) → bits < 2 ^ len → Packed octets bits len h
    → Packed (octets ++ (bits + octet * 2 ^ len) % 256 ∷ []) ((bits + octet * 2 ^ len) / 256) len (reverse (low_bits 8 octet) ++ h)
unfolding Packed
packed_eight octets bits len octet h fits packed =
    let n : ℕ = bits + octet * 2 ^ len in
    ap (λ l. l ++ low_bits len (n / 256)) (bits_of-append octets (n % 256 ∷ []) ∙ ap (λ l. bits_of octets ++ l) (octet_bits (n % 256)))
    ∙ append_assoc (bits_of octets) (low_bits 8 (n % 256)) (low_bits len (n / 256))
    ∙ ap (λ l. bits_of octets ++ l) (joined bits len octet fits)
    ∙ sym (append_assoc (bits_of octets) (low_bits len bits) (low_bits 8 octet))
    ∙ ap (λ l. l ++ low_bits 8 octet) packed
    ∙ sym (reverse-append (reverse (low_bits 8 octet)) h ∙ ap (λ l. reverse h ++ l) (reverse-reverse (low_bits 8 octet)))

-- as the code computes it, in sixteen bits
pub packed_shifted : (octets : List ℕ) (bits len octet : ℕ) (h : List Bool) → len < 8 → octet < 256 → bits < 2 ^ len → Packed octets bits len h
    → Packed (octets ++ (bits + octet * 2 ^ len % 65536) % 256 ∷ []) ((bits + octet * 2 ^ len % 65536) / 256) len (reverse (low_bits 8 octet) ++ h)
packed_shifted octets bits len octet h short small fits packed =
    let P : ℕ → Type 0 = λ m. Packed (octets ++ (bits + m) % 256 ∷ []) ((bits + m) / 256) len (reverse (low_bits 8 octet) ++ h) in
    subst P (sym (shl_whole octet 8 len 16 small (omega arith))) (packed_eight octets bits len octet h fits packed)

-- ---- the bits of an octet and the 0s among them
-- the line bits after r 1s in a row, in order, and the number of 1s that they end with
abbrev pub line_bits : ℕ → List Bool → List Bool
line_bits r [] = []
line_bits r (false ∷ bs) = false ∷ line_bits 0 bs
line_bits r (true ∷ bs) = cond (r == 4) (true ∷ false ∷ line_bits 0 bs) (true ∷ line_bits (suc r) bs)

abbrev pub line_ones : ℕ → List Bool → ℕ
line_ones r [] = r
line_ones r (false ∷ bs) = line_ones 0 bs
line_ones r (true ∷ bs) = cond (r == 4) (line_ones 0 bs) (line_ones (suc r) bs)

record Goes (bs sent on : List Bool) (m : ℕ) : Type 0 where
  pub line : stuffed (reverse bs ++ sent) ≡ reverse on ++ stuffed sent
  pub ones : m ≡ trailing (stuffed (reverse bs ++ sent))

pub one_later : (b : Bool) (bs h : List Bool) → reverse (b ∷ bs) ++ h ≡ reverse bs ++ (b ∷ h)
one_later b bs h = ap (λ l. l ++ h) (reverse-cons b bs) ∙ append_assoc (reverse bs) (b ∷ []) h

goes_plain : (b : Bool) (bs sent line : List Bool) (m : ℕ) → stuffed (b ∷ sent) ≡ b ∷ stuffed sent → Goes bs (b ∷ sent) line m → Goes (b ∷ bs) sent (b ∷ line) m
goes_plain b bs sent line m here rest = record {
  line = ap stuffed (one_later b bs sent) ∙ rest.line ∙ ap (λ l. reverse line ++ l) here ∙ sym (one_later b line (stuffed sent));
  ones = rest.ones ∙ ap (λ l. trailing (stuffed l)) (sym (one_later b bs sent));
}

goes_with_zero : (b : Bool) (bs sent line : List Bool) (m : ℕ) → stuffed (b ∷ sent) ≡ false ∷ b ∷ stuffed sent → Goes bs (b ∷ sent) line m
    → Goes (b ∷ bs) sent (b ∷ false ∷ line) m
goes_with_zero b bs sent line m here rest = record {
  line =
      ap stuffed (one_later b bs sent) ∙ rest.line ∙ ap (λ l. reverse line ++ l) here
      ∙ sym (one_later b (false ∷ line) (stuffed sent) ∙ one_later false line (b ∷ stuffed sent));
  ones = rest.ones ∙ ap (λ l. trailing (stuffed l)) (sym (one_later b bs sent));
}

goes_one : (r : ℕ) (bs sent : List Bool) → r ≡ trailing (stuffed sent) → ((r == 4) ≡ true) × (r ≡ 4) ⊎ ((r == 4) ≡ false) × (r ≡ 4 → ⊥)
    → (0 ≡ trailing (stuffed (true ∷ sent)) → Goes bs (true ∷ sent) (line_bits 0 bs) (line_ones 0 bs))
    → (suc r ≡ trailing (stuffed (true ∷ sent)) → Goes bs (true ∷ sent) (line_bits (suc r) bs) (line_ones (suc r) bs))
    → Goes (true ∷ bs) sent (cond (r == 4) (true ∷ false ∷ line_bits 0 bs) (true ∷ line_bits (suc r) bs)) (cond (r == 4) (line_ones 0 bs) (line_ones (suc r) bs))
goes_one r bs sent count (inl t) anew on =
    let P : Bool → Type 0 = λ b. Goes (true ∷ bs) sent (cond b (true ∷ false ∷ line_bits 0 bs) (true ∷ line_bits (suc r) bs)) (cond b (line_ones 0 bs) (line_ones (suc r) bs)) in
    subst P (sym t.0) (goes_with_zero true bs sent (line_bits 0 bs) (line_ones 0 bs) (stuffed-when_five true sent r refl t.1 count) (anew (trailing-when_five true sent r refl t.1 count)))
goes_one r bs sent count (inr t) anew on =
    let P : Bool → Type 0 = λ b. Goes (true ∷ bs) sent (cond b (true ∷ false ∷ line_bits 0 bs) (true ∷ line_bits (suc r) bs)) (cond b (line_ones 0 bs) (line_ones (suc r) bs)) in
    subst P (sym t.0) (goes_plain true bs sent (line_bits (suc r) bs) (line_ones (suc r) bs) (stuffed-when_other true sent r refl t.1 count)
    (on ((let e : suc r ≡ r + 1 = omega arith in e) ∙ trailing-when_other true sent r refl t.1 count)))

goes : (bs sent : List Bool) (r : ℕ) → r ≡ trailing (stuffed sent) → Goes bs sent (line_bits r bs) (line_ones r bs)
goes [] sent r count = record { line = refl; ones = count }
goes (false ∷ bs) sent r count =
    goes_plain false bs sent (line_bits 0 bs) (line_ones 0 bs) (stuffed-when_zero false sent refl) (goes bs (false ∷ sent) 0 (trailing-when_zero false sent refl))
goes (true ∷ bs) sent r count =
    goes_one r bs sent count (eqb_tells r 4) (λ new. goes bs (true ∷ sent) 0 new) (λ new. goes bs (true ∷ sent) (suc r) new)

-- ---- all octets after all numbers of 1s, by trying each
abbrev pub window_of : ℕ → ℕ → ℕ
window_of octet r = (octet + 1) * 2 ^ r % 65536 - 1

abbrev pub fives_of : ℕ → ℕ
fives_of window = bit_and (bit_and (bit_and window (window / 2)) (bit_and window (window / 2) / 4)) (window / 16)

-- where the first five 1s begin, and after how many bits of the octet they end
abbrev pub first_of : ℕ → ℕ → ℕ
first_of octet r = trailing_zeros w16 (fives_of (window_of octet r))

abbrev pub cut_of : ℕ → ℕ → ℕ
cut_of octet r = first_of octet r + 5 - r

abbrev pub nine_of : ℕ → ℕ → ℕ
nine_of octet r = 2 * octet - octet % (1 * 2 ^ cut_of octet r % 65536)

abbrev pub same_bits : List Bool → List Bool → Bool
same_bits [] [] = true
same_bits [] (c ∷ cs) = false
same_bits (b ∷ bs) [] = false
same_bits (b ∷ bs) (c ∷ cs) = beq b c && same_bits bs cs

abbrev plain_line : ℕ → ℕ → Bool
plain_line r octet = same_bits (line_bits r (low_bits 8 octet)) (low_bits 8 octet)

abbrev plain_end : ℕ → ℕ → Bool
plain_end r octet = line_ones r (low_bits 8 octet) == leading_ones w8 octet

abbrev plain_told : ℕ → ℕ → Bool
plain_told r octet = plain_line r octet && (plain_end r octet && nat_lt (leading_ones w8 octet) 5)

abbrev places_told : ℕ → ℕ → Bool
places_told r octet = nat_lt (first_of octet r) 8 && nat_lt (cut_of octet r) 9

abbrev pub nine_ones : ℕ → ℕ → ℕ
nine_ones octet r = min (leading_ones w8 octet) (8 - cut_of octet r)

abbrev nine_line : ℕ → ℕ → Bool
nine_line r octet = same_bits (line_bits r (low_bits 8 octet)) (low_bits 8 (nine_of octet r % 256) ++ nat_le 256 (nine_of octet r) ∷ [])

abbrev nine_end : ℕ → ℕ → Bool
nine_end r octet = line_ones r (low_bits 8 octet) == nine_ones octet r

abbrev nine_told : ℕ → ℕ → Bool
nine_told r octet = nine_line r octet && (nine_end r octet && (nat_lt (nine_ones octet r) 5 && nat_lt (5 + nine_ones octet r) (r + 9)))

abbrev once_told : ℕ → ℕ → Bool
once_told r octet = cond (fives_of (window_of octet r) / 2 ^ (first_of octet r + 5) == 0) (nine_told r octet) true

abbrev rest_told : ℕ → ℕ → Bool
rest_told r octet = places_told r octet && once_told r octet

abbrev told : ℕ → ℕ → Bool
told r octet = cond (fives_of (window_of octet r) == 0) (plain_told r octet) (rest_told r octet)

abbrev pub all_below : (ℕ → Bool) → ℕ → Bool
all_below test zero = true
all_below test (suc n) = test n && all_below test n

last_or_before : (c n : ℕ) → c < suc n → (c ≡ n) ⊎ (c < n)
last_or_before zero zero low = inl refl
last_or_before zero (suc n) low = inr (omega arith)
last_or_before (suc c) zero low = absurd (omega arith)
last_or_before (suc c) (suc n) low = up (last_or_before c n (omega arith)) where
  up : (c ≡ n) ⊎ (c < n) → (suc c ≡ suc n) ⊎ (suc c < suc n)
  up (inl same) = inl (ap suc same)
  up (inr less) = inr (omega arith)

at_one_by : (test : ℕ → Bool) (n c : ℕ) → all_below test (suc n) ≡ true → (all_below test n ≡ true → c < n → test c ≡ true) → (c ≡ n) ⊎ (c < n) → test c ≡ true
at_one_by test n c ok before (inl same) = ap test same ∙ (both (test n) (all_below test n) ok).0
at_one_by test n c ok before (inr less) = before (both (test n) (all_below test n) ok).1 less

pub at_one : (test : ℕ → Bool) (n c : ℕ) → all_below test n ≡ true → c < n → test c ≡ true
at_one test zero c ok low = absurd (omega arith)
at_one test (suc n) c ok low = at_one_by test n c ok (λ all less. at_one test n c all less) (last_or_before c n low)

tried : all_below (λ r. all_below (λ octet. told r octet) 256) 5 ≡ true
unfolding low_bits count_leading_zeros count_trailing_zeros
tried = refl

told_at : (r octet : ℕ) → r < 5 → octet < 256 → told r octet ≡ true
told_at r octet few small = at_one (λ o. told r o) 256 octet (at_one (λ q. all_below (λ o. told q o) 256) 5 r tried few) small

same_bit : (b c : Bool) → beq b c ≡ true → b ≡ c
same_bit true true is = refl
same_bit true false is = absurd (let e : false ≡ true = is in cc)
same_bit false true is = absurd (let e : false ≡ true = is in cc)
same_bit false false is = refl

pub bits_same : (bs cs : List Bool) → same_bits bs cs ≡ true → bs ≡ cs
bits_same [] [] is = refl
bits_same [] (c ∷ cs) is = absurd (let e : false ≡ true = is in cc)
bits_same (b ∷ bs) [] is = absurd (let e : false ≡ true = is in cc)
bits_same (b ∷ bs) (c ∷ cs) is =
    let parts : (beq b c ≡ true) × (same_bits bs cs ≡ true) = both (beq b c) (same_bits bs cs) is in
    let front : b ≡ c = same_bit b c parts.0 in
    let rest : bs ≡ cs = bits_same bs cs parts.1 in
    cc

pub if_so : (n : ℕ) (x y : Bool) → n ≡ 0 → cond (n == 0) x y ≡ true → x ≡ true
if_so n x y none is = sym (ap (λ m. cond (m == 0) x y) none) ∙ is

pub if_not_by : (n : ℕ) (x y : Bool) → (n ≡ 0 → ⊥) → ((n == 0) ≡ true) × (n ≡ 0) ⊎ ((n == 0) ≡ false) × (n ≡ 0 → ⊥) → cond (n == 0) x y ≡ true → y ≡ true
if_not_by n x y some (inl t) is = absurd (some t.1)
if_not_by n x y some (inr t) is = sym (ap (λ b. cond b x y) t.0) ∙ is

-- ---- an octet without five 1s in a row
pub record Plain (r octet : ℕ) : Type 0 where
  pub line : line_bits r (low_bits 8 octet) ≡ low_bits 8 octet
  pub ones : line_ones r (low_bits 8 octet) ≡ leading_ones w8 octet
  pub few : leading_ones w8 octet < 5

plain_by : (r octet : ℕ) → plain_told r octet ≡ true → Plain r octet
plain_by r octet is =
    let parts : (plain_line r octet ≡ true) × ((plain_end r octet && nat_lt (leading_ones w8 octet) 5) ≡ true) = both (plain_line r octet) (plain_end r octet && nat_lt (leading_ones w8 octet) 5) is in
    let others : (plain_end r octet ≡ true) × (nat_lt (leading_ones w8 octet) 5 ≡ true) = both (plain_end r octet) (nat_lt (leading_ones w8 octet) 5) parts.1 in
    record {
      line = bits_same (line_bits r (low_bits 8 octet)) (low_bits 8 octet) parts.0;
      ones = eqb-true (line_ones r (low_bits 8 octet)) (leading_ones w8 octet) others.0;
      few = ltb-true (leading_ones w8 octet) 5 others.1;
    }

pub plain : (r octet : ℕ) → r < 5 → octet < 256 → fives_of (window_of octet r) ≡ 0 → Plain r octet
plain r octet few small none = plain_by r octet (if_so (fives_of (window_of octet r)) (plain_told r octet) (rest_told r octet) none (told_at r octet few small))

pub plain_bits : (r octet : ℕ) (sent : List Bool) → Plain r octet → r ≡ trailing (stuffed sent)
    → stuffed (reverse (low_bits 8 octet) ++ sent) ≡ reverse (low_bits 8 octet) ++ stuffed sent
plain_bits r octet sent is count = (goes (low_bits 8 octet) sent r count).line ∙ ap (λ l. reverse l ++ stuffed sent) is.line

pub plain_ones : (r octet : ℕ) (sent : List Bool) → Plain r octet → r ≡ trailing (stuffed sent)
    → leading_ones w8 octet ≡ trailing (stuffed (reverse (low_bits 8 octet) ++ sent))
plain_ones r octet sent is count = sym is.ones ∙ (goes (low_bits 8 octet) sent r count).ones

-- ---- an octet with five 1s in a row once
some_five : (r octet : ℕ) → r < 5 → octet < 256 → (fives_of (window_of octet r) ≡ 0 → ⊥) → rest_told r octet ≡ true
some_five r octet few small some =
    if_not_by (fives_of (window_of octet r)) (plain_told r octet) (rest_told r octet) some (eqb_tells (fives_of (window_of octet r)) 0) (told_at r octet few small)

pub first_small : (r octet : ℕ) → r < 5 → octet < 256 → (fives_of (window_of octet r) ≡ 0 → ⊥) → first_of octet r < 8
first_small r octet few small some =
    ltb-true (first_of octet r) 8 (both (nat_lt (first_of octet r) 8) (nat_lt (cut_of octet r) 9) (both (places_told r octet) (once_told r octet) (some_five r octet few small some)).0).0

pub cut_small : (r octet : ℕ) → r < 5 → octet < 256 → (fives_of (window_of octet r) ≡ 0 → ⊥) → cut_of octet r < 9
cut_small r octet few small some =
    ltb-true (cut_of octet r) 9 (both (nat_lt (first_of octet r) 8) (nat_lt (cut_of octet r) 9) (both (places_told r octet) (once_told r octet) (some_five r octet few small some)).0).1

pub cut_divides : (r octet : ℕ) → r < 5 → octet < 256 → (fives_of (window_of octet r) ≡ 0 → ⊥) → 0 < 1 * 2 ^ cut_of octet r % 65536
cut_divides r octet few small some =
    let small_cut : cut_of octet r < 16 = omega (arith, cut_small r octet few small some) in
    let P : ℕ → Type 0 = λ n. 0 < n in
    subst P (sym (one_shl (cut_of octet r) 16 small_cut)) (pow_pos (cut_of octet r))

pub record Nine (r octet : ℕ) : Type 0 where
  pub line : line_bits r (low_bits 8 octet) ≡ low_bits 8 (nine_of octet r % 256) ++ nat_le 256 (nine_of octet r) ∷ []
  pub ones : line_ones r (low_bits 8 octet) ≡ nine_ones octet r
  pub few : nine_ones octet r < 5
  pub pace : 5 + nine_ones octet r < r + 9

nine_by : (r octet : ℕ) → nine_told r octet ≡ true → Nine r octet
nine_by r octet is =
    let few : Bool = nat_lt (nine_ones octet r) 5 in
    let pace : Bool = nat_lt (5 + nine_ones octet r) (r + 9) in
    let parts : (nine_line r octet ≡ true) × ((nine_end r octet && (few && pace)) ≡ true) = both (nine_line r octet) (nine_end r octet && (few && pace)) is in
    let others : (nine_end r octet ≡ true) × ((few && pace) ≡ true) = both (nine_end r octet) (few && pace) parts.1 in
    let bounds : (few ≡ true) × (pace ≡ true) = both few pace others.1 in
    record {
      line = bits_same (line_bits r (low_bits 8 octet)) (low_bits 8 (nine_of octet r % 256) ++ nat_le 256 (nine_of octet r) ∷ []) parts.0;
      ones = eqb-true (line_ones r (low_bits 8 octet)) (nine_ones octet r) others.0;
      few = ltb-true (nine_ones octet r) 5 bounds.0;
      pace = ltb-true (5 + nine_ones octet r) (r + 9) bounds.1;
    }

pub nine : (r octet : ℕ) → r < 5 → octet < 256 → (fives_of (window_of octet r) ≡ 0 → ⊥) → fives_of (window_of octet r) / 2 ^ (first_of octet r + 5) ≡ 0 → Nine r octet
nine r octet few small some once =
    nine_by r octet (if_so (fives_of (window_of octet r) / 2 ^ (first_of octet r + 5)) (nine_told r octet) true once (both (places_told r octet) (once_told r octet) (some_five r octet few small some)).1)

pub nine_bits : (r octet : ℕ) (sent : List Bool) → Nine r octet → r ≡ trailing (stuffed sent)
    → stuffed (reverse (low_bits 8 octet) ++ sent) ≡ nat_le 256 (nine_of octet r) ∷ (reverse (low_bits 8 (nine_of octet r % 256)) ++ stuffed sent)
nine_bits r octet sent is count =
    (goes (low_bits 8 octet) sent r count).line ∙ ap (λ l. reverse l ++ stuffed sent) is.line
    ∙ ap (λ l. l ++ stuffed sent) (reverse-append (low_bits 8 (nine_of octet r % 256)) (nat_le 256 (nine_of octet r) ∷ []))

pub nine_ones_on : (r octet : ℕ) (sent : List Bool) → Nine r octet → r ≡ trailing (stuffed sent)
    → nine_ones octet r ≡ trailing (stuffed (reverse (low_bits 8 octet) ++ sent))
nine_ones_on r octet sent is count = sym is.ones ∙ (goes (low_bits 8 octet) sent r count).ones
