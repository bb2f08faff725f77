-- A few bits that don't follow six 1s, in normal mode: they end no flag, begin no counting mode and report nothing.
use Rattle.std.proofs.Common.{◌≡◌, ℕ, ◌+◌, ◌-◌, ◌*◌, ◌/◌, ◌%◌, ◌^◌, ◌<◌, ◌≤◌, zero, suc, min, Bool, true, false, Option, Some, None, List, [], ◌∷◌, ◌++◌, length, reverse, drop, refl, sym, ap, ◌∙◌, arith, subst, inl, inr}
use Rattle.std.specs.Prelude.{◌==◌, ◌⊎◌, bit_and, unwrap_or}
use Rattle.std.specs.Option.{option_map}
use Rattle.std.specs.Int.{bit_at}
use Rattle.std.proofs.lemmas.Bool.{le-ltb}
use Rattle.std.proofs.lemmas.Nat.{shr-shr, shr_high, mod_low, one_shl, pow-add, pow_pos}
use Rattle.std.proofs.lemmas.Nat.Bits.{bit_at_and}
use Rattle.std.proofs.Math.Nat.{mul_assoc, mul_comm, div-add-mod}
use Rattle.std.proofs.lemmas.List.{reverse-append, reverse-reverse, length-reverse}
use Rattle.su_octets.specs.Bits.{low_bits}
use Rattle.bit_line.specs.Stuffing.{trailing, taken_out}
use Rattle.bit_line.specs.Flags.{six_ones, ends_flag, since_flag, inside, begins}
use Rattle.bit_line.specs.Events.{Runs}
use Rattle.bit_line.specs.Counting.{Counts}
use Rattle.bit_line.specs.Deframing.{LetsIn, Fits, StandsAt, newest, EndsNone}
use Rattle.bit_line.specs.declared.receiver.Receiver.{Receiver}
use Rattle.bit_line.specs.declared.events.LineEvent.{LineEvent}
use Rattle.bit_line.proofs.StuffLaws.{taken_out-one, taken_out-five, taken_out-other, five_or_other}
use Rattle.bit_line.proofs.FlagLaws.{since_flag-other, ends_flag-plain, begins-plain}
use Rattle.bit_line.proofs.FewLaws.{pow_small}
use Rattle.bit_line.proofs.Newest.{Window, window, no_six_when}
use Rattle.bit_line.proofs.ThroughLaws.{quiet}
use Rattle.su_octets.proofs.BitLists.{length-low_bits, low_bits-split, low_bits-mod}
use Rattle.plain_laws.proofs.Numbers.{div_small}

-- ---- six 1s in a row, as the code finds them
abbrev pub sixes_of : ℕ → ℕ
sixes_of w = bit_and (bit_and (bit_and w (w / 2)) (bit_and w (w / 2) / 4)) (bit_and w (w / 2) / 16)

pub at_shifted : (w j i : ℕ) → bit_at (w / 2 ^ j) i ≡ bit_at w (j + i)
at_shifted w j i = ap (λ n. n % 2) (shr-shr w j i)

pub pair_at : (w i : ℕ) → bit_at w i ≡ 1 → bit_at w (1 + i) ≡ 1 → bit_at (bit_and w (w / 2)) i ≡ 1
pair_at w i one next =
    let shifted : bit_at (w / 2) i ≡ 1 = at_shifted w 1 i ∙ next in
    bit_at_and w (w / 2) i ∙ ap (λ n. min n (bit_at (w / 2) i)) one ∙ ap (λ n. min 1 n) shifted

sixes_at : (w i : ℕ) → ((s : ℕ) → s < 6 → bit_at w (s + i) ≡ 1) → bit_at (sixes_of w) i ≡ 1
sixes_at w i all =
    let pairs : ℕ = bit_and w (w / 2) in
    let pair : (s : ℕ) → s < 5 → bit_at pairs (s + i) ≡ 1 = λ s few. pair_at w (s + i) (all s (omega arith)) (ap (λ n. bit_at w n) (let e : 1 + (s + i) ≡ 1 + s + i = omega arith in e) ∙ all (1 + s) (omega arith)) in
    let first : bit_at pairs i ≡ 1 = ap (λ n. bit_at pairs n) (let e : i ≡ 0 + i = omega arith in e) ∙ pair 0 (omega arith) in
    let third : bit_at (pairs / 4) i ≡ 1 = at_shifted pairs 2 i ∙ pair 2 (omega arith) in
    let fifth : bit_at (pairs / 16) i ≡ 1 = at_shifted pairs 4 i ∙ pair 4 (omega arith) in
    bit_at_and (bit_and pairs (pairs / 4)) (pairs / 16) i
    ∙ ap (λ n. min n (bit_at (pairs / 16) i)) (bit_at_and pairs (pairs / 4) i ∙ ap (λ n. min n (bit_at (pairs / 4) i)) first ∙ ap (λ n. min 1 n) third)
    ∙ ap (λ n. min 1 n) fifth

-- if 2^k divides a number, its k low bits are 0
pub low_none : (n i k : ℕ) → i < k → n % 2 ^ k ≡ 0 → bit_at n i ≡ 0
low_none n i k less none =
    let q : ℕ = n / 2 ^ k in
    let p : ℕ = 2 ^ (k - i - 1) in
    let sum : 2 ^ k ≡ 2 ^ (k - i) * 2 ^ i = ap (λ j. 2 ^ j) (let e : k ≡ k - i + i = omega (arith, less) in e) ∙ pow-add 2 (k - i) i in
    let double : 2 ^ (k - i) ≡ p * 2 = ap (λ j. 2 ^ j) (let e : k - i ≡ k - i - 1 + 1 = omega (arith, less) in e) ∙ pow-add 2 (k - i - 1) 1 in
    let whole : n ≡ q * 2 ^ k = (let e : 2 ^ k * q + n % 2 ^ k ≡ n = div-add-mod n (2 ^ k) in omega (arith, e, none, mul_comm (2 ^ k) q)) in
    let parts : n ≡ (q * p * 2) * 2 ^ i =
    whole ∙ ap (λ m. q * m) (sum ∙ ap (λ m. m * 2 ^ i) double) ∙ sym (mul_assoc q (p * 2) (2 ^ i)) ∙ ap (λ m. m * 2 ^ i) (sym (mul_assoc q p 2)) in
    let high : n / 2 ^ i ≡ q * p * 2 =
    ap (λ m. m / 2 ^ i) (parts ∙ (let e : (q * p * 2) * 2 ^ i ≡ (q * p * 2) * 2 ^ i + 0 = omega arith in e)) ∙ shr_high (q * p * 2) i 0 (pow_pos i) in
    ap (λ m. m % 2) high ∙ (let e : q * p * 2 % 2 ≡ 0 = omega arith in e)

ones_of_126 : (v s : ℕ) → s < 6 → v % 128 ≡ 126 → v / 2 ^ (1 + s) % 2 ≡ 1
ones_of_126 v zero few is = omega (arith, is)
ones_of_126 v (suc zero) few is = omega (arith, is)
ones_of_126 v (suc (suc zero)) few is = omega (arith, is)
ones_of_126 v (suc (suc (suc zero))) few is = omega (arith, is)
ones_of_126 v (suc (suc (suc (suc zero)))) few is = omega (arith, is)
ones_of_126 v (suc (suc (suc (suc (suc zero))))) few is = omega (arith, is)
ones_of_126 v (suc (suc (suc (suc (suc (suc s)))))) few is = absurd (omega arith)

pub plain_low : (w m n : ℕ) → m < n → sixes_of w / 2 % 2 ^ n ≡ 0 → w / 2 ^ m % 128 ≡ 126 → ⊥
plain_low w m n less none is =
    let low : bit_at (sixes_of w / 2) m ≡ 0 = low_none (sixes_of w / 2) m n less none in
    let clear : bit_at (sixes_of w) (1 + m) ≡ 0 = sym (at_shifted (sixes_of w) 1 m) ∙ low in
    let set : bit_at (sixes_of w) (1 + m) ≡ 1 =
    sixes_at w (1 + m) (λ s small.
    ap (λ i. bit_at w i) (let e : s + (1 + m) ≡ m + (1 + s) = omega arith in e) ∙ sym (at_shifted w m (1 + s)) ∙ ones_of_126 (w / 2 ^ m) s small is) in
    omega (arith, clear, set)

set_at : (w m : ℕ) → w / 2 ^ m % 128 ≡ 126 → bit_at (sixes_of w / 2) m ≡ 1
set_at w m is =
    at_shifted (sixes_of w) 1 m
    ∙ sixes_at w (1 + m) (λ s small.
    ap (λ i. bit_at w i) (let e : s + (1 + m) ≡ m + (1 + s) = omega arith in e) ∙ sym (at_shifted w m (1 + s)) ∙ ones_of_126 (w / 2 ^ m) s small is)

other_bit : (p m : ℕ) → (m < p) ⊎ (p < m) → bit_at (2 ^ p) m ≡ 0
other_bit p m (inl below) =
    low_none (2 ^ p) m p below (ap (λ n. n % 2 ^ p) (let e : 2 ^ p ≡ 1 * 2 ^ p + 0 = omega arith in e) ∙ mod_low 1 p 0 (pow_pos p))
other_bit p m (inr above) =
    ap (λ n. n % 2) (div_small (2 ^ p) m (let most : 2 ^ (p + 1) ≤ 2 ^ m = pow_small (p + 1) m (omega arith) in let double : 2 ^ (p + 1) ≡ 2 ^ p * 2 = pow-add 2 p 1 in omega (arith, most, double, pow_pos p)))

below_or_above : (p m : ℕ) → (m ≡ p → ⊥) → (m < p) ⊎ (p < m)
below_or_above zero zero other = absurd (other refl)
below_or_above zero (suc m) other = inr (omega arith)
below_or_above (suc p) zero other = inl (omega arith)
below_or_above (suc p) (suc m) other = by_one (below_or_above p m (λ is. other (ap suc is))) where
  by_one : (m < p) ⊎ (p < m) → (suc m < suc p) ⊎ (suc p < suc m)
  by_one (inl less) = inl (omega (arith, less))
  by_one (inr more) = inr (omega (arith, more))

-- if six 1s are at one place only, they are at no other place
pub plain_else : (w p m : ℕ) → p ≤ 55 → sixes_of w / 2 ≡ 1 * 2 ^ p % 18446744073709551616 → (m ≡ p → ⊥) → w / 2 ^ m % 128 ≡ 126 → ⊥
plain_else w p m few only other is =
    let power : 1 * 2 ^ p % 18446744073709551616 ≡ 2 ^ p = one_shl p 64 (omega (arith, few)) in
    let clear : bit_at (sixes_of w / 2) m ≡ 0 = ap (λ n. bit_at n m) (only ∙ power) ∙ other_bit p m (below_or_above p m other) in
    omega (arith, clear, set_at w m is)

pub plain_by : (w m n : ℕ) → m < n → n ≤ 8 → sixes_of w / 2 % (1 * 2 ^ n % 65536) ≡ 0 → w / 2 ^ m % 128 ≡ 126 → ⊥
plain_by w m n less few none is =
    let power : 1 * 2 ^ n % 65536 ≡ 2 ^ n = one_shl n 16 (omega arith) in
    plain_low w m n less (sym (ap (λ p. sixes_of w / 2 % p) power) ∙ none) is

-- ---- the content grows by at most one bit
head_grows : (b : Bool) (c : List Bool) → length (taken_out (b ∷ c)) ≤ length (taken_out c) + 1
head_grows true c = omega (arith, ap length (taken_out-one c))
head_grows false c = zero_grows c (five_or_other c) where
  zero_grows : (d : List Bool) → (trailing d ≡ 5) ⊎ (trailing d ≡ 5 → ⊥) → length (taken_out (false ∷ d)) ≤ length (taken_out d) + 1
  zero_grows d (inl five) = omega (arith, ap length (taken_out-five d five))
  zero_grows d (inr other) = omega (arith, ap length (taken_out-other d other))

drop_grows : (n : ℕ) (c : List Bool) → length (taken_out (drop n c)) ≤ length (taken_out (drop (suc n) c)) + 1
drop_grows zero [] = omega arith
drop_grows zero (b ∷ c) = head_grows b c
drop_grows (suc n) [] = omega arith
drop_grows (suc n) (b ∷ c) = drop_grows n c

inside_by : (b : Bool) (s : Option (List Bool)) → length (taken_out (drop 7 (unwrap_or (option_map (λ c. b ∷ c) s) []))) ≤ length (taken_out (drop 7 (unwrap_or s []))) + 1
inside_by b None = omega arith
inside_by b (Some c) = drop_grows 6 c

inside_grows : (b : Bool) (h : List Bool) → ends_flag (b ∷ h) ≡ false → length (taken_out (inside (b ∷ h))) ≤ length (taken_out (inside h)) + 1
unfolding inside
inside_grows b h other =
    let P : Option (List Bool) → Type 0 = λ s. length (taken_out (drop 7 (unwrap_or s []))) ≤ length (taken_out (drop 7 (unwrap_or (since_flag h) []))) + 1 in
    subst P (sym (since_flag-other b h other)) (inside_by b (since_flag h))

-- ---- bits in turn
pub bits_more : (m x : ℕ) → reverse (low_bits (m + 1) x) ≡ (x / 2 ^ m % 2 == 1) ∷ reverse (low_bits m x)
unfolding low_bits
bits_more m x = ap reverse (low_bits-split m 1 x) ∙ reverse-append (low_bits m x) (low_bits 1 (x / 2 ^ m))

pub record Quietly (k h : List Bool) (events : List LineEvent) : Type 0 where
  pub ends : EndsNone k h
  pub runs : Runs (k ++ h) None events
  pub room : length (taken_out (inside (k ++ h))) ≤ length (taken_out (inside h)) + length k

quiet_more : (b : Bool) (k h : List Bool) (events : List LineEvent) → six_ones (k ++ h) ≡ false → length (taken_out (inside h)) + length k < 2224
    → Quietly k h events → Quietly (b ∷ k) h events
quiet_more b k h events none room q =
    let other : ends_flag (b ∷ (k ++ h)) ≡ false = ends_flag-plain b (k ++ h) none in
    let grows : length (taken_out (inside (b ∷ (k ++ h)))) ≤ length (taken_out (inside (k ++ h))) + 1 = inside_grows b (k ++ h) other in
    let calm : begins (b ∷ (k ++ h)) ≡ false =
    begins-plain b (k ++ h) none ∙ le-ltb 2224 (length (taken_out (inside (b ∷ (k ++ h))))) (omega (arith, grows, q.room, room)) in
    record { ends = (q.ends, other); runs = quiet b (k ++ h) events q.runs other calm; room = omega (arith, grows, q.room) }

no_six_at : (recent bits m : ℕ) (h : List Bool) → recent < 128 → low_bits 7 recent ≡ reverse (newest 7 h)
    → ((recent + bits * 128) / 2 ^ m % 128 ≡ 126 → ⊥) → six_ones (reverse (low_bits m bits) ++ h) ≡ false
no_six_at recent bits m h small is other =
    let w : Window recent bits m h = window recent bits m h small is in
    let v : ℕ = (recent + bits * 128) / 2 ^ m in
    no_six_when (v % 128) (reverse (low_bits m bits) ++ h) (omega arith) (low_bits-mod 7 v ∙ w.next) other

pub quietly : (most recent bits m : ℕ) (h : List Bool) (events : List LineEvent) → recent < 128 → low_bits 7 recent ≡ reverse (newest 7 h) → m ≤ most
    → ((i : ℕ) → i < m → (recent + bits * 128) / 2 ^ i % 128 ≡ 126 → ⊥) → length (taken_out (inside h)) + most ≤ 2224 → Runs h None events
    → Quietly (reverse (low_bits m bits)) h events
unfolding low_bits
quietly most recent bits zero h events small is few plain room runs = record { ends = tt; runs = runs; room = omega arith }
quietly most recent bits (suc m) h events small is few plain room runs =
    let q : Quietly (reverse (low_bits m bits)) h events = quietly most recent bits m h events small is (omega arith) (λ i less. plain i (omega arith)) room runs in
    let long : length (reverse (low_bits m bits)) ≡ m = length-reverse (low_bits m bits) ∙ length-low_bits m bits in
    let P : List Bool → Type 0 = λ k. Quietly k h events in
    subst P (sym (ap (λ n. reverse (low_bits n bits)) (let e : suc m ≡ m + 1 = omega arith in e) ∙ bits_more m bits))
    (quiet_more (bits / 2 ^ m % 2 == 1) (reverse (low_bits m bits)) h events (no_six_at recent bits m h small is (plain m (omega arith))) (omega (arith, long, room, few)) q)

-- ---- the deframer
pub none_mode : (mode count : Option ℕ) → Counts mode count → count ≡ None → mode ≡ None
none_mode None count counts none = refl
none_mode (Some n) count counts none = absurd (let e : Some (n % 128) ≡ None = sym counts ∙ none in cc)

pub plain_stands : (most bits len late : ℕ) (h : List Bool) (events : List LineEvent) (old new : Receiver) → len ≤ most → old.counter.count ≡ None → new.counter.count ≡ None
    → ((l : List Bool) → LetsIn l old.gate → length (taken_out (inside l)) + most ≤ 2224)
    → ((i : ℕ) → i < len → (old.recent + bits * 128) / 2 ^ i % 128 ≡ 126 → ⊥)
    → late ≡ (old.recent + bits * 128) % 2 ^ len → new.recent ≡ (old.recent + bits * 128) / 2 ^ len % 128
    → ((l k : List Bool) → length k ≡ len → EndsNone k l → drop 7 (k ++ newest 7 l) ≡ reverse (low_bits len late) → LetsIn l old.gate → LetsIn (k ++ l) new.gate)
    → StandsAt h events old → StandsAt (reverse (low_bits len bits) ++ h) events new
unfolding StandsAt
plain_stands most bits len late h events old new few was normal room plain is_late next passes stands =
    let fits : Fits h stands.0 old = stands.2 in
    let k : List Bool = reverse (low_bits len bits) in
    let w : Window old.recent bits len h = window old.recent bits len h old.recent_fits fits.recent in
    let all : ℕ = old.recent + bits * 128 in
    let M : Option ℕ → Type 0 = λ m. Runs h m events in
    let q : Quietly k h events =
    quietly most old.recent bits len h events old.recent_fits fits.recent few plain (room h fits.gate) (subst M (none_mode stands.0 old.counter.count fits.counting was) stands.1) in
    let late_bits : low_bits len late ≡ low_bits len all = ap (λ n. low_bits len n) is_late ∙ low_bits-mod len all in
    let behind : drop 7 (k ++ newest 7 h) ≡ reverse (low_bits len late) =
    sym (reverse-reverse (drop 7 (k ++ newest 7 h))) ∙ ap reverse (sym w.late ∙ sym late_bits) in (
      None,
      q.runs,
      record {
        recent = ap (λ n. low_bits 7 n) next ∙ low_bits-mod 7 (all / 2 ^ len) ∙ w.next;
        gate = passes h k (length-reverse (low_bits len bits) ∙ length-low_bits len bits) q.ends behind fits.gate;
        counting = normal;
      },
    )

pub low_value : (w len : ℕ) → len ≤ 8 → w % (1 * 2 ^ len % 65536) ≡ w % 2 ^ len
low_value w len few = ap (λ p. w % p) (one_shl len 16 (omega arith))
