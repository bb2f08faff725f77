-- One more bit of a unit.
use Rattle.std.proofs.Common.{◌≡◌, ℕ, ◌+◌, ◌*◌, ◌/◌, ◌%◌, ◌<◌, zero, suc, Bool, true, false, List, [], ◌∷◌, ◌++◌, length, take, drop, get_or, reverse, append_assoc, append-nil, length-append, refl, sym, ap, subst, arith, ◌∙◌}
use Rattle.su_octets.specs.Bits.{low_bits, bits_of}
use Rattle.bit_line.specs.Stuffing.{stuffed}
use Rattle.bit_line.proofs.BitLists.{reverse-cons}
use Rattle.bit_line.proofs.SendLaws as laws
use Rattle.bit_line.specs.Sending.{flag}
use Rattle.std.proofs.Math.Seq.{take-add}
use Rattle.std.proofs.lemmas.List.{drop_more}
use Rattle.script_ends.specs.UnitLines.{IsSent, shared_flags}
use Rattle.su_octets.proofs.BitLists.{bits_of-append}

-- One more bit of the line.
line_more : (before h : List Bool) (line : List Bool) (b : Bool) → line ≡ before ++ reverse h → line ++ b ∷ [] ≡ before ++ reverse (b ∷ h)
line_more before h line b is =
    ap (λ l. l ++ b ∷ []) is ∙ (append_assoc before (reverse h) (b ∷ []) ∙ ap (λ l. before ++ l) (sym (reverse-cons b h)))

pub sent_zero : (before sent line now : List Bool) (b : Bool) (ones : ℕ) → b ≡ false → now ≡ line ++ b ∷ [] → IsSent before sent line ones → IsSent before (b ∷ sent) now 0
sent_zero before sent line now b ones is more old =
    record {
      bits = more ∙ (line_more before (stuffed sent) line b old.bits ∙ ap (λ h. before ++ reverse h) (sym (laws.stuffed-when_zero b sent is)));
      count = laws.trailing-when_zero b sent is;
    }

pub sent_fifth : (before sent line mid now : List Bool) (b : Bool) (ones : ℕ) → b ≡ true → ones ≡ 4 → mid ≡ line ++ b ∷ [] → now ≡ mid ++ false ∷ []
    → IsSent before sent line ones → IsSent before (b ∷ sent) now 0
sent_fifth before sent line mid now b ones is four first second old =
    record {
      bits =
          second
          ∙ (line_more before (b ∷ stuffed sent) mid false (first ∙ line_more before (stuffed sent) line b old.bits)
          ∙ ap (λ h. before ++ reverse h) (sym (laws.stuffed-when_five b sent ones is four old.count)));
      count = laws.trailing-when_five b sent ones is four old.count;
    }

pub sent_one : (before sent line now : List Bool) (b : Bool) (ones : ℕ) → b ≡ true → (ones ≡ 4 → ⊥) → now ≡ line ++ b ∷ [] → IsSent before sent line ones
    → IsSent before (b ∷ sent) now (ones + 1)
sent_one before sent line now b ones is other more old =
    record {
      bits =
          more
          ∙ (line_more before (stuffed sent) line b old.bits ∙ ap (λ h. before ++ reverse h) (sym (laws.stuffed-when_other b sent ones is other old.count)));
      count = laws.trailing-when_other b sent ones is other old.count;
    }

pub sent_same : (before g h line : List Bool) (ones : ℕ) → g ≡ h → IsSent before g line ones → IsSent before h line ones
sent_same before g h line ones same sent = let P : List Bool → Type 0 = λ l. IsSent before l line ones in subst P same sent

pub sent_none : (line : List Bool) → IsSent line (reverse (bits_of [])) line 0
sent_none line =
    sent_same line [] (reverse (bits_of [])) line 0 (sym laws.no_octets)
    (record { bits = sym (append-nil line) ∙ ap (λ h. line ++ reverse h) (sym laws.stuffed-none); count = laws.trailing-nothing })

-- ---- octets

pub low_odd : (k n : ℕ) → low_bits (suc k) (2 * n + 1) ≡ true ∷ low_bits k n
unfolding low_bits
low_odd k n =
    let r : (2 * n + 1) % 2 ≡ 1 = omega arith in
    let q : (2 * n + 1) / 2 ≡ n = omega arith in
    rw (r, q) refl

pub low_even : (k n : ℕ) → low_bits (suc k) (2 * n) ≡ false ∷ low_bits k n
unfolding low_bits
low_even k n =
    let r : 2 * n % 2 ≡ 0 = omega arith in
    let q : 2 * n / 2 ≡ n = omega arith in
    rw (r, q) refl

-- One bit of a list before the others.
pub bit_before : (xs : List Bool) (i j k n m : ℕ) → i < length xs → j ≡ i + 1 → low_bits (suc k) n ≡ get_or xs i false ∷ low_bits k m
    → low_bits k m ≡ take k (drop j xs) → low_bits (suc k) n ≡ take (suc k) (drop i xs)
bit_before xs i j k n m within next is others =
    is
    ∙ (ap (λ l. get_or xs i false ∷ l) (others ∙ ap (λ p. take k (drop p xs)) next)
    ∙ sym (ap (take (suc k)) (drop_more xs i false within)))

pub bits_none : bits_of [] ≡ []
unfolding bits_of
bits_none = refl

pub bits_more : (octets now : List ℕ) (octet place : ℕ) (bits : List Bool) → now ≡ octets ++ octet ∷ [] → bits_of octets ≡ take (8 * place) bits
    → low_bits 8 octet ≡ take 8 (drop (8 * place) bits) → bits_of now ≡ take (8 * (place + 1)) bits
unfolding bits_of
bits_more octets now octet place bits is old eight =
    let e : 8 * place + 8 ≡ 8 * (place + 1) = omega arith in
    ap bits_of is
    ∙ (bits_of-append octets (octet ∷ [])
    ∙ (ap (λ l. bits_of octets ++ l) (append-nil (low_bits 8 octet))
    ∙ (ap (λ l. l ++ low_bits 8 octet) old
    ∙ (ap (λ l. take (8 * place) bits ++ l) eight ∙ (sym (take-add (8 * place) 8 bits) ∙ ap (λ n. take n bits) e)))))

-- ---- flags

pub no_flags : (line : List Bool) → line ≡ line ++ shared_flags 0
unfolding shared_flags
no_flags line = sym (append-nil line)

pub flag_more : (line first now : List Bool) (k : ℕ) → line ≡ first ++ shared_flags k → now ≡ line ++ drop 1 flag → now ≡ first ++ shared_flags (k + 1)
unfolding shared_flags
flag_more line first now k is more =
    let one : shared_flags (suc k) ≡ shared_flags k ++ drop 1 flag = refl in
    let n : suc k ≡ k + 1 = omega arith in
    more
    ∙ (ap (λ l. l ++ drop 1 flag) is
    ∙ (append_assoc first (shared_flags k) (drop 1 flag) ∙ ap (λ l. first ++ l) (sym one ∙ ap shared_flags n)))

flags_long : (k : ℕ) → length (shared_flags k) ≡ 7 * k
unfolding shared_flags
flags_long zero = refl
flags_long (suc k) =
    let h : length (shared_flags k) ≡ 7 * k = flags_long k in
    let l : length (shared_flags k ++ drop 1 flag) ≡ length (shared_flags k) + length (drop 1 flag) = length-append (shared_flags k) (drop 1 flag) in
    omega (arith, h, l)

pub flags_end : (line now : List Bool) (over : ℕ) → over ≡ length line % 8 → now ≡ line ++ shared_flags over → length now % 8 ≡ 0
flags_end line now over is same =
    let long : length (shared_flags over) ≡ 7 * over = flags_long over in
    let all : length now ≡ length line + length (shared_flags over) = ap length same ∙ length-append line (shared_flags over) in
    omega (arith, is, long, all)
