-- Octets completed with 1s, and the octets that a unit fills.
use Rattle.std.proofs.Common.{◌≡◌, ℕ, ◌+◌, ◌-◌, ◌*◌, ◌%◌, ◌^◌, ◌<◌, ◌≤◌, zero, suc, Bool, true, false, List, [], ◌∷◌, ◌++◌, length, inl, inr, refl, sym, ap, ◌∙◌, subst, append_assoc, append-nil, arith, drop}
use Rattle.std.specs.Prelude.{◌⊎◌, ◌&&◌, replicate, slice_index_or}
use Rattle.std.proofs.lemmas.List.{length-append}
use Rattle.su_octets.specs.Bits.{low_bits, bits_of}
use Rattle.su_octets.specs.Frame.{Frame, SpareBitsAreZero}
use Rattle.su_octets.specs.declared.units.Unit as units
use Rattle.bit_line.specs.Stuffing.{stuffing_of}
use Rattle.bit_line.specs.Sending.{flag, framed, line_of}
use Rattle.bit_line.specs.Stuffers.{Gave}
use Rattle.bit_line.specs.declared.stuffer.Stuffer.{Stuffer}
use Rattle.line_filter.specs.Speaking.{Stuffs, Fills}

-- ---- a small domain, tested completely
abbrev all_below : (ℕ → Bool) → ℕ → Bool
all_below test zero = true
all_below test (suc n) = test n && all_below test n

both : (a b : Bool) → (a && b) ≡ true → (a ≡ true) × (b ≡ true)
both true b h = (refl, h)
both false b h = absurd (let e : false ≡ true = h in cc)

last_or_before : (c n : ℕ) → c < suc n → (c ≡ n) ⊎ (c < n)
last_or_before zero zero low = inl refl
last_or_before zero (suc n) low = inr (omega arith)
last_or_before (suc c) zero low = absurd (omega arith)
last_or_before (suc c) (suc n) low = up (last_or_before c n (omega arith)) where
  up : (c ≡ n) ⊎ (c < n) → (suc c ≡ suc n) ⊎ (suc c < suc n)
  up (inl same) = inl (ap suc same)
  up (inr less) = inr (omega arith)

at_one_by : (test : ℕ → Bool) (n c : ℕ) → all_below test (suc n) ≡ true → (all_below test n ≡ true → c < n → test c ≡ true) → (c ≡ n) ⊎ (c < n) → test c ≡ true
at_one_by test n c ok before (inl same) = ap test same ∙ (both (test n) (all_below test n) ok).0
at_one_by test n c ok before (inr less) = before (both (test n) (all_below test n) ok).1 less

at_one : (test : ℕ → Bool) (n c : ℕ) → all_below test n ≡ true → c < n → test c ≡ true
at_one test zero c ok low = absurd (omega arith)
at_one test (suc n) c ok low = at_one_by test n c ok (λ all less. at_one test n c all less) (last_or_before c n low)

abbrev beq : Bool → Bool → Bool
beq true b = b
beq false true = false
beq false false = true

abbrev same_bits : List Bool → List Bool → Bool
same_bits [] [] = true
same_bits [] (c ∷ cs) = false
same_bits (b ∷ bs) [] = false
same_bits (b ∷ bs) (c ∷ cs) = beq b c && same_bits bs cs

same_bit : (b c : Bool) → beq b c ≡ true → b ≡ c
same_bit true true is = refl
same_bit true false is = absurd (let e : false ≡ true = is in cc)
same_bit false true is = absurd (let e : false ≡ true = is in cc)
same_bit false false is = refl

bits_same : (bs cs : List Bool) → same_bits bs cs ≡ true → bs ≡ cs
bits_same [] [] is = refl
bits_same [] (c ∷ cs) is = absurd (let e : false ≡ true = is in cc)
bits_same (b ∷ bs) [] is = absurd (let e : false ≡ true = is in cc)
bits_same (b ∷ bs) (c ∷ cs) is =
    let parts : (beq b c ≡ true) × (same_bits bs cs ≡ true) = both (beq b c) (same_bits bs cs) is in
    let front : b ≡ c = same_bit b c parts.0 in
    let rest : bs ≡ cs = bits_same bs cs parts.1 in
    cc

abbrev filled : ℕ → ℕ → ℕ
filled bits len = bits + (255 - (1 * 2 ^ len % 256 - 1))

abbrev fills : ℕ → ℕ → Bool
fills len bits = same_bits (low_bits 8 (filled bits len)) (low_bits len bits ++ replicate (8 - len) true)

tried : all_below (λ len. all_below (λ bits. fills len bits) (2 ^ len)) 8 ≡ true
unfolding low_bits
tried = refl

pub filled_bits : (bits len : ℕ) → len < 8 → bits < 2 ^ len → low_bits 8 (filled bits len) ≡ low_bits len bits ++ replicate (8 - len) true
filled_bits bits len few fits =
    bits_same _ _ (at_one (λ b. fills len b) (2 ^ len) bits (at_one (λ n. all_below (λ b. fills n b) (2 ^ n)) 8 len tried few) fits)

-- ---- lengths
pub bits_of_more : (xs : List ℕ) (o : ℕ) → bits_of (xs ++ o ∷ []) ≡ bits_of xs ++ low_bits 8 o
unfolding bits_of
bits_of_more [] o = append-nil (low_bits 8 o)
bits_of_more (x ∷ xs) o = ap (λ bs. low_bits 8 x ++ bs) (bits_of_more xs o) ∙ sym (append_assoc (low_bits 8 x) (bits_of xs) (low_bits 8 o))

low_bits_length : (k n : ℕ) → length (low_bits k n) ≡ k
unfolding low_bits
low_bits_length zero n = refl
low_bits_length (suc k) n = ap suc (low_bits_length k _)

bits_length : (xs : List ℕ) → length (bits_of xs) ≡ 8 * length xs
unfolding bits_of
bits_length [] = refl
bits_length (x ∷ xs) = omega (arith, length-append (low_bits 8 x) (bits_of xs), low_bits_length 8 x, bits_length xs)

flag_length : length flag ≡ 8
flag_length = refl

framed_one : (u : List ℕ) (us : List (List ℕ)) → framed (u ∷ us) ≡ (stuffing_of (bits_of u) ++ flag) ++ framed us
unfolding framed
framed_one u us = refl

framed_length : (u : List ℕ) (us : List (List ℕ)) → length (framed (u ∷ us)) ≡ length (stuffing_of (bits_of u)) + 8 + length (framed us)
framed_length u us =
    ap length (framed_one u us)
    ∙ (length-append (stuffing_of (bits_of u) ++ flag) (framed us)
    ∙ ap (λ n. n + length (framed us)) (length-append (stuffing_of (bits_of u)) flag ∙ ap (λ n. length (stuffing_of (bits_of u)) + n) flag_length))

none_framed : length (framed []) ≡ 0
unfolding framed
none_framed = refl

framed_longer : (units : List (List ℕ)) (o : List ℕ) → length (framed units) + 8 ≤ length (framed (units ++ o ∷ []))
framed_longer [] o = let e : length (framed []) + 8 ≤ length (framed (o ∷ [])) = omega (arith, framed_length o [], none_framed) in e
framed_longer (u ∷ us) o =
    let e : length (framed (u ∷ us)) + 8 ≤ length (framed (u ∷ (us ++ o ∷ []))) = omega (arith, framed_length u us, framed_length u (us ++ o ∷ []), framed_longer us o) in e

line_length : (u : List ℕ) (us : List (List ℕ)) → length (line_of (u ∷ us)) ≡ 8 + length (framed (u ∷ us))
unfolding line_of
line_length u us = length-append flag (framed (u ∷ us))

no_line : length (line_of []) ≡ 0
unfolding line_of
no_line = refl

line_longer : (units : List (List ℕ)) (o : List ℕ) → length (line_of units) + 8 ≤ length (line_of (units ++ o ∷ []))
line_longer [] o = let e : length (line_of []) + 8 ≤ length (line_of (o ∷ [])) = omega (arith, line_length o [], no_line) in e
line_longer (u ∷ us) o =
    let e : length (line_of (u ∷ us)) + 8 ≤ length (line_of (u ∷ (us ++ o ∷ []))) = omega (arith, line_length u us, line_length u (us ++ o ∷ []), framed_longer (u ∷ us) o) in e

gave_length : (given : List ℕ) (units : List (List ℕ)) (s : Stuffer) → Gave given units s → 8 * length given + s.part.len ≡ length (line_of units)
gave_length given units s gave =
    omega (arith, length-append (bits_of given) (low_bits s.part.len s.part.bits), bits_length given, low_bits_length s.part.len s.part.bits, ap length gave.bits)

-- A unit fills at least one octet.
pub some_octet : (given octets : List ℕ) (units : List (List ℕ)) (frame : List ℕ) (old new : Stuffer) → Gave given units old
    → Gave (given ++ octets) (units ++ frame ∷ []) new → 0 < length octets
some_octet given octets units frame old new before after =
    omega (arith, gave_length given units old before, gave_length (given ++ octets) (units ++ frame ∷ []) new after, length-append given octets, line_longer units frame, new.part.len_fits)

-- ---- the steps of a voice
pub whole_again : (xs : List ℕ) → 0 < length xs → slice_index_or xs 0 0 ∷ drop 1 xs ≡ xs
whole_again [] some = absurd (omega (arith, some))
whole_again (x ∷ xs) some = refl

pub stuffs_of : (old new : Stuffer) (unit : units.Unit) (frame items octets : List ℕ) → octets ≡ items → Frame frame unit → SpareBitsAreZero frame
    → ((given : List ℕ) (sent : List (List ℕ)) → Gave given sent old → Gave (given ++ items) (sent ++ frame ∷ []) new) → Stuffs old unit octets new
stuffs_of old new unit frame items octets same is_frame spare gave = record {
  frame = frame;
  is_frame = is_frame;
  spare = spare;
  gave = λ given sent before. let P : List ℕ → Type 0 = λ xs. Gave (given ++ xs) (sent ++ frame ∷ []) new in subst P (sym same) (gave given sent before);
}

pub fills_of : (old new : Stuffer) (octet bits len : ℕ) → len < 8
    → ((given : List ℕ) (sent : List (List ℕ)) → Gave given sent old → bits_of given ++ low_bits len bits ≡ line_of sent)
    → low_bits 8 octet ≡ low_bits len bits ++ replicate (8 - len) true → Gave [] [] new → Fills old octet new
fills_of old new octet bits len few rest filled anew = record {
  ones = 8 - len;
  some = omega (arith, few);
  few = omega arith;
  bits = λ given sent gave.
      bits_of_more given octet
      ∙ (ap (λ (bs : List Bool). bits_of given ++ bs) filled
      ∙ (sym (append_assoc (bits_of given) (low_bits len bits) (replicate (8 - len) true))
      ∙ ap (λ (bs : List Bool). bs ++ replicate (8 - len) true) (rest given sent gave)));
  anew = anew;
}
