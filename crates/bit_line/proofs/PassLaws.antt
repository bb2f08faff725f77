-- The gate takes a few bits that end no flag.
use Rattle.std.proofs.Common.{◌≡◌, ℕ, ◌+◌, ◌-◌, ◌*◌, ◌/◌, ◌^◌, ◌<◌, ◌≤◌, zero, suc, Bool, true, false, Some, List, [], ◌∷◌, ◌++◌, length, reverse, take, drop, refl, sym, ap, ◌∙◌, arith, subst, append_assoc}
use Rattle.std.specs.Prelude.{is_some}
use Rattle.std.specs.Option.{option_map}
use Rattle.std.proofs.Math.Nat.{div-lt_iff_lt-mul}
use Rattle.std.proofs.lemmas.Nat.{pow-add, pow_pos}
use Rattle.std.proofs.lemmas.List.{append-nil, reverse-append, reverse-reverse, length-append, length-reverse, drop-append-le, take-append-drop}
use Rattle.su_octets.specs.Bits.{low_bits}
use Rattle.bit_line.specs.Stuffing.{taken_out}
use Rattle.bit_line.specs.Flags.{since_flag, inside}
use Rattle.bit_line.specs.Deframing.{LetsIn, Holds, newest, EndsNone}
use Rattle.bit_line.specs.declared.gate.Gate.{Gate}
use Rattle.bit_line.proofs.FlagLaws.{since_flag-other, part_of}
use Rattle.bit_line.proofs.Newest.{length-newest}
use Rattle.bit_line.proofs.GateLaws.{pass-unseen, seen_by, inside-some, latest-some}
use Rattle.su_octets.proofs.BitLists.{length-low_bits, low_bits-split}
use Rattle.plain_laws.proofs.Lists.{front_same}

-- ---- since the last flag
pub since-few : (k h c : List Bool) → EndsNone k h → since_flag h ≡ Some c → since_flag (k ++ h) ≡ Some (k ++ c)
since-few [] h c ends some = some
since-few (b ∷ k) h c ends some = since_flag-other b (k ++ h) ends.1 ∙ ap (λ s. option_map (λ d. b ∷ d) s) (since-few k h c ends.0 some)

-- ---- before the first flag
pub few-unseen : (k h : List Bool) (g : Gate) → EndsNone k h → g.seen ≡ false → LetsIn h g → LetsIn (k ++ h) g
few-unseen [] h g ends none lets = lets
few-unseen (b ∷ k) h g ends none lets = pass-unseen b (k ++ h) g ends.1 none (few-unseen k h g ends.0 none lets)

-- ---- the newest seven bits and those since the flag
newest-part : (n : ℕ) (c rest : List Bool) → n ≤ length c → newest n (c ++ rest) ≡ take n c
unfolding newest
newest-part zero c rest long = refl
newest-part (suc n) [] rest long = absurd (let e : suc n ≤ 0 = long in omega (arith, e))
newest-part (suc n) (b ∷ c) rest long = ap (λ l. b ∷ l) (newest-part n c rest (omega arith))

newest-more : (n w : ℕ) (c rest : List Bool) → n ≡ length c + w → newest n (c ++ rest) ≡ c ++ newest w rest
unfolding newest
newest-more n w [] rest sum = ap (λ m. newest m rest) (omega (arith, sum))
newest-more zero w (b ∷ c) rest sum = absurd (omega (arith, sum))
newest-more (suc n) w (b ∷ c) rest sum = ap (λ l. b ∷ l) (newest-more n w c rest (omega (arith, sum)))

seen_still : (h c : List Bool) (seen : Bool) → seen ≡ true → since_flag h ≡ Some c → seen ≡ is_some (since_flag h)
seen_still h c seen was some = was ∙ ap is_some (sym some)

-- ---- seven bits or more since the flag
late_inside : (k h c : List Bool) → EndsNone k h → since_flag h ≡ Some c → 7 ≤ length c → inside (k ++ h) ≡ drop 7 (k ++ newest 7 h) ++ inside h
late_inside k h c ends some long =
    let part : (rest : List Bool) × (h ≡ c ++ rest) = part_of h c some in
    let front : newest 7 h ≡ take 7 c = ap (λ l. newest 7 l) part.1 ∙ newest-part 7 c part.0 long in
    let seven : length (take 7 c) ≡ 7 = ap length (sym front) ∙ length-newest 7 h in
    inside-some (k ++ h) (k ++ c) (since-few k h c ends some)
    ∙ ap (λ l. drop 7 (k ++ l)) (sym (take-append-drop 7 c)) ∙ ap (λ l. drop 7 l) (sym (append_assoc k (take 7 c) (drop 7 c)))
    ∙ drop-append-le 7 (k ++ take 7 c) (drop 7 c) (omega (arith, length-append k (take 7 c), seven))
    ∙ ap (λ l. drop 7 (k ++ l) ++ drop 7 c) (sym front) ∙ ap (λ l. drop 7 (k ++ newest 7 h) ++ l) (sym (inside-some h c some))

pub few-late : (k h l : List Bool) (old new : Gate) → EndsNone k h → drop 7 (k ++ newest 7 h) ≡ l → old.seen ≡ true → old.wait ≡ 0
    → new.seen ≡ old.seen → new.wait ≡ old.wait → ((d : List Bool) → Holds d old.content → Holds (l ++ d) new.content) → LetsIn h old → LetsIn (k ++ h) new
few-late k h l old new ends is some ready same_seen same_wait pushed lets =
    let since : (c : List Bool) × (since_flag h ≡ Some c) = seen_by h old lets some in
    let c : List Bool = since.0 in
    let enough : 7 ≤ length c = omega (arith, lets.wait, ap length (latest-some h c since.1), ready) in
    let more : since_flag (k ++ h) ≡ Some (k ++ c) = since-few k h c ends since.1 in
    let next : inside (k ++ h) ≡ l ++ inside h = late_inside k h c ends since.1 enough ∙ ap (λ x. x ++ inside h) is in
    let P : List Bool → Type 0 = λ d. Holds d new.content in
    record {
      seen = seen_still (k ++ h) (k ++ c) new.seen (same_seen ∙ some) more;
      wait = (let e : new.wait ≡ 7 - length (k ++ c) = omega (arith, same_wait, ready, enough, length-append k c) in e) ∙ ap (λ d. 7 - length d) (sym (latest-some (k ++ h) (k ++ c) more));
      content = λ seen zero_wait. subst P (sym next) (pushed (inside h) (lets.content some ready));
    }

-- ---- fewer than seven bits since the flag, even with the new ones
pub few-waiting : (k h : List Bool) (n : ℕ) (old new : Gate) → EndsNone k h → length k ≡ n → n < old.wait → old.seen ≡ true → new.seen ≡ old.seen → new.wait ≡ old.wait - n
    → LetsIn h old → LetsIn (k ++ h) new
few-waiting k h n old new ends long less some same_seen next_wait lets =
    let since : (c : List Bool) × (since_flag h ≡ Some c) = seen_by h old lets some in
    let c : List Bool = since.0 in
    let more : since_flag (k ++ h) ≡ Some (k ++ c) = since-few k h c ends since.1 in
    let was : old.wait ≡ 7 - length c = lets.wait ∙ ap (λ d. 7 - length d) (latest-some h c since.1) in
    record {
      seen = seen_still (k ++ h) (k ++ c) new.seen (same_seen ∙ some) more;
      wait = (let e : new.wait ≡ 7 - length (k ++ c) = omega (arith, next_wait, was, long, less, length-append k c) in e) ∙ ap (λ d. 7 - length d) (sym (latest-some (k ++ h) (k ++ c) more));
      content = λ seen zero_wait. absurd (omega (arith, zero_wait, next_wait, less));
    }

-- ---- the new bits complete seven since the flag
pub late_fits : (late len w : ℕ) → w ≤ len → late < 2 ^ len → late / 2 ^ w < 2 ^ (len - w)
late_fits late len w less fits =
    let sum : 2 ^ len ≡ 2 ^ (len - w) * 2 ^ w = ap (λ i. 2 ^ i) (let e : len ≡ len - w + w = omega (arith, less) in e) ∙ pow-add 2 (len - w) w in
    (div-lt_iff_lt-mul {k = 2 ^ w} {x = late} {y = 2 ^ (len - w)} (pow_pos w)).1 (let P : ℕ → Type 0 = λ n. late < n in subst P sum fits)

pub clear_inside : (k h c : List Bool) (late len w : ℕ) → length k ≡ len → EndsNone k h → drop 7 (k ++ newest 7 h) ≡ reverse (low_bits len late)
    → since_flag h ≡ Some c → 7 ≡ length c + w → w ≤ len → inside (k ++ h) ≡ reverse (low_bits (len - w) (late / 2 ^ w))
clear_inside k h c late len w long ends is some sum less =
    let part : (rest : List Bool) × (h ≡ c ++ rest) = part_of h c some in
    let r : List Bool = newest w part.0 in
    let all : newest 7 h ≡ c ++ r = ap (λ l. newest 7 l) part.1 ∙ newest-more 7 w c part.0 sum in
    let d : List Bool = drop 7 (k ++ c) in
    let behind : reverse (low_bits len late) ≡ d ++ r =
    sym is ∙ ap (λ l. drop 7 (k ++ l)) all ∙ ap (λ l. drop 7 l) (sym (append_assoc k c r)) ∙ drop-append-le 7 (k ++ c) r (omega (arith, length-append k c, long, sum, less)) in
    let whole : low_bits w late ++ low_bits (len - w) (late / 2 ^ w) ≡ reverse r ++ reverse d =
    sym (low_bits-split w (len - w) late) ∙ ap (λ n. low_bits n late) (let e : w + (len - w) ≡ len = omega (arith, less) in e)
    ∙ sym (reverse-reverse (low_bits len late)) ∙ ap reverse behind ∙ reverse-append d r in
    let parts = front_same (low_bits w late) (reverse r) (low_bits (len - w) (late / 2 ^ w)) (reverse d)
    (omega (arith, length-low_bits w late, length-reverse r, length-newest w part.0)) whole in
    inside-some (k ++ h) (k ++ c) (since-few k h c ends some) ∙ sym (reverse-reverse d) ∙ ap reverse (sym parts.1)

pub few-clears : (k h : List Bool) (late len : ℕ) (old new : Gate) → length k ≡ len → EndsNone k h → drop 7 (k ++ newest 7 h) ≡ reverse (low_bits len late)
    → old.seen ≡ true → (old.wait ≡ 0 → ⊥) → old.wait ≤ len → new.seen ≡ old.seen → new.wait ≡ 0
    → Holds (reverse (low_bits (len - old.wait) (late / 2 ^ old.wait)) ++ []) new.content → LetsIn h old → LetsIn (k ++ h) new
few-clears k h late len old new long ends is some waits less same_seen ready holds lets =
    let since : (c : List Bool) × (since_flag h ≡ Some c) = seen_by h old lets some in
    let c : List Bool = since.0 in
    let more : since_flag (k ++ h) ≡ Some (k ++ c) = since-few k h c ends since.1 in
    let was : old.wait ≡ 7 - length c = lets.wait ∙ ap (λ d. 7 - length d) (latest-some h c since.1) in
    let sum : 7 ≡ length c + old.wait = omega (arith, was, waits) in
    let next : inside (k ++ h) ≡ reverse (low_bits (len - old.wait) (late / 2 ^ old.wait)) ++ [] =
    clear_inside k h c late len old.wait long ends is since.1 sum less ∙ sym (append-nil (reverse (low_bits (len - old.wait) (late / 2 ^ old.wait)))) in
    let P : List Bool → Type 0 = λ d. Holds d new.content in
    record {
      seen = seen_still (k ++ h) (k ++ c) new.seen (same_seen ∙ some) more;
      wait = (let e : new.wait ≡ 7 - length (k ++ c) = omega (arith, ready, sum, long, less, length-append k c) in e) ∙ ap (λ d. 7 - length d) (sym (latest-some (k ++ h) (k ++ c) more));
      content = λ seen zero_wait. subst P (sym next) holds;
    }

-- ---- room
pub room_none : (h : List Bool) → inside h ≡ [] → length (taken_out (inside h)) + 8 ≤ 2224
unfolding taken_out
room_none h none = omega (arith, ap (λ l. length (taken_out l)) none)

pub room_forty : (h : List Bool) → inside h ≡ [] → length (taken_out (inside h)) + 40 ≤ 2224
unfolding taken_out
room_forty h none = omega (arith, ap (λ l. length (taken_out l)) none)
