-- Stuffing bit by bit, and the line that a stuffer makes.
use Rattle.std.proofs.Common.{◌≡◌, ℕ, ◌+◌, ◌/◌, ◌^◌, ◌<◌, suc, Bool, true, false, List, [], ◌∷◌, ◌++◌, length, reverse, take, get_or, refl, sym, ap, ◌∙◌, arith, subst, append_assoc}
use Rattle.std.specs.Prelude.{◌==◌, bit_and}
use Rattle.std.proofs.lemmas.List.{append-nil, reverse-reverse, reverse-append, take_more}
use Rattle.std.proofs.lemmas.Nat.Bits.{shr_and_one}
use Rattle.su_octets.specs.Bits.{low_bits, bits_of}
use Rattle.bit_line.specs.Parts.{Packed, opening}
use Rattle.bit_line.specs.Stuffing.{trailing, stuffed, stuffing_of}
use Rattle.bit_line.specs.Sending.{flag, framed, line_of}
use Rattle.bit_line.specs.Stuffers.{PlainStuffer, Gave, is_some_unit}
use Rattle.bit_line.proofs.StuffLaws.{stuffed-zero, with_zero-five, with_zero-other, trailing-one, trailing-zero}
use Rattle.su_octets.proofs.BitLists.{low_bits-split, bits_of-append}

-- ---- one more bit of a unit
pub stuffed-when_zero : (b : Bool) (sent : List Bool) → b ≡ false → stuffed (b ∷ sent) ≡ b ∷ stuffed sent
stuffed-when_zero true sent is = absurd (let e : true ≡ false = is in cc)
stuffed-when_zero false sent is = stuffed-zero sent

pub trailing-when_zero : (b : Bool) (sent : List Bool) → b ≡ false → 0 ≡ trailing (stuffed (b ∷ sent))
trailing-when_zero true sent is = absurd (let e : true ≡ false = is in cc)
trailing-when_zero false sent is = sym (ap trailing (stuffed-zero sent) ∙ trailing-zero (stuffed sent))

pub stuffed-when_five : (b : Bool) (sent : List Bool) (ones : ℕ) → b ≡ true → ones ≡ 4 → ones ≡ trailing (stuffed sent) → stuffed (b ∷ sent) ≡ false ∷ b ∷ stuffed sent
unfolding stuffed
stuffed-when_five false sent ones is four count = absurd (let e : false ≡ true = is in cc)
stuffed-when_five true sent ones is four count =
    with_zero-five (true ∷ stuffed sent) (trailing-one (stuffed sent) ∙ (let e : suc (trailing (stuffed sent)) ≡ 5 = omega (arith, four, count) in e))

pub trailing-when_five : (b : Bool) (sent : List Bool) (ones : ℕ) → b ≡ true → ones ≡ 4 → ones ≡ trailing (stuffed sent) → 0 ≡ trailing (stuffed (b ∷ sent))
trailing-when_five b sent ones is four count = sym (ap trailing (stuffed-when_five b sent ones is four count) ∙ trailing-zero (b ∷ stuffed sent))

pub stuffed-when_other : (b : Bool) (sent : List Bool) (ones : ℕ) → b ≡ true → (ones ≡ 4 → ⊥) → ones ≡ trailing (stuffed sent) → stuffed (b ∷ sent) ≡ b ∷ stuffed sent
unfolding stuffed
stuffed-when_other false sent ones is other count = absurd (let e : false ≡ true = is in cc)
stuffed-when_other true sent ones is other count =
    with_zero-other (true ∷ stuffed sent) (λ five. other (omega (arith, count, five, trailing-one (stuffed sent))))

pub trailing-when_other : (b : Bool) (sent : List Bool) (ones : ℕ) → b ≡ true → (ones ≡ 4 → ⊥) → ones ≡ trailing (stuffed sent) → ones + 1 ≡ trailing (stuffed (b ∷ sent))
trailing-when_other false sent ones is other count = absurd (let e : false ≡ true = is in cc)
trailing-when_other true sent ones is other count =
    omega (arith, count, trailing-one (stuffed sent), ap trailing (stuffed-when_other true sent ones is other count))

pub packed_to : (octets : List ℕ) (bits len : ℕ) (g h : List Bool) → g ≡ h → Packed octets bits len g → Packed octets bits len h
packed_to octets bits len g h same packed = let P : List Bool → Type 0 = λ l. Packed octets bits len l in subst P same packed

-- ---- an octet bit by bit
pub octet_more : (i octet : ℕ) (h : List Bool) → (bit_and (octet / 2 ^ i) 1 == 1) ∷ (reverse (low_bits i octet) ++ h) ≡ reverse (low_bits (i + 1) octet) ++ h
unfolding low_bits
octet_more i octet h =
    sym (ap (λ bs. reverse bs ++ h) (low_bits-split i 1 octet)
    ∙ ap (λ bs. bs ++ h) (reverse-append (low_bits i octet) (low_bits 1 (octet / 2 ^ i)))
    ∙ ap (λ n. (n == 1) ∷ (reverse (low_bits i octet) ++ h)) (sym (shr_and_one octet i)))

pub octet_none : (octet : ℕ) (h : List Bool) → h ≡ reverse (low_bits 0 octet) ++ h
unfolding low_bits
octet_none octet h = refl

pub next_octet : (i : ℕ) (octets : List ℕ) → i < length octets
    → reverse (low_bits 8 (get_or octets i 0)) ++ reverse (bits_of (take i octets)) ≡ reverse (bits_of (take (i + 1) octets))
unfolding bits_of
next_octet i octets within =
    sym (ap reverse
    (ap bits_of (take_more octets i 0 within) ∙ bits_of-append (take i octets) (get_or octets i 0 ∷ [])
    ∙ ap (λ l. bits_of (take i octets) ++ l) (append-nil (low_bits 8 (get_or octets i 0))))
    ∙ reverse-append (bits_of (take i octets)) (low_bits 8 (get_or octets i 0)))

pub no_octets : reverse (bits_of []) ≡ []
unfolding bits_of
no_octets = refl

pub stuffed-none : stuffed [] ≡ []
unfolding stuffed
stuffed-none = refl

pub trailing-nothing : 0 ≡ trailing (stuffed [])
unfolding stuffed trailing
trailing-nothing = refl

-- ---- the line
flag_bits : low_bits 8 126 ≡ flag
unfolding low_bits
flag_bits = refl

pub framed-append : (us vs : List (List ℕ)) → framed (us ++ vs) ≡ framed us ++ framed vs
unfolding framed
framed-append [] vs = refl
framed-append (u ∷ us) vs =
    ap (λ l. (stuffing_of (bits_of u) ++ flag) ++ l) (framed-append us vs) ∙ sym (append_assoc (stuffing_of (bits_of u) ++ flag) (framed us) (framed vs))

pub framed-one : (octets : List ℕ) → framed (octets ∷ []) ≡ stuffing_of (bits_of octets) ++ flag
unfolding framed
framed-one octets = append-nil (stuffing_of (bits_of octets) ++ flag)

line_of-some : (u : List ℕ) (us : List (List ℕ)) → line_of (u ∷ us) ≡ flag ++ framed (u ∷ us)
unfolding line_of
line_of-some u us = refl

line_of-none : line_of [] ≡ []
unfolding line_of
line_of-none = refl

line_more : (started : Bool) (units : List (List ℕ)) (octets : List ℕ) → started ≡ is_some_unit units
    → (line_of units ++ reverse (opening started)) ++ (stuffing_of (bits_of octets) ++ flag) ≡ line_of (units ++ octets ∷ [])
line_more true [] octets is = absurd (let e : true ≡ false = is in cc)
line_more false (u ∷ us) octets is = absurd (let e : false ≡ true = is in cc)
line_more false [] octets is =
    ap (λ l. (l ++ reverse (reverse (low_bits 8 126))) ++ (stuffing_of (bits_of octets) ++ flag)) line_of-none
    ∙ ap (λ l. l ++ (stuffing_of (bits_of octets) ++ flag)) (reverse-reverse (low_bits 8 126) ∙ flag_bits)
    ∙ ap (λ l. flag ++ l) (sym (framed-one octets)) ∙ sym (line_of-some octets [])
line_more true (u ∷ us) octets is =
    ap (λ l. l ++ (stuffing_of (bits_of octets) ++ flag)) (append-nil (line_of (u ∷ us)) ∙ line_of-some u us)
    ∙ append_assoc flag (framed (u ∷ us)) (stuffing_of (bits_of octets) ++ flag)
    ∙ ap (λ l. flag ++ l) (ap (λ l. framed (u ∷ us) ++ l) (sym (framed-one octets)) ∙ sym (framed-append (u ∷ us) (octets ∷ [])))
    ∙ sym (line_of-some u (us ++ octets ∷ []))

some_more : (units : List (List ℕ)) (octets : List ℕ) → true ≡ is_some_unit (units ++ octets ∷ [])
some_more [] octets = refl
some_more (u ∷ us) octets = refl

pub gave_none : (s : PlainStuffer) → s.started ≡ false → s.part.len ≡ 0 → Gave [] [] s
unfolding line_of bits_of low_bits
gave_none s started len = record { bits = rw len refl; started = started }

-- the fields of the stuffer before a unit
pub packed_of : (given : List ℕ) (units : List (List ℕ)) (s : PlainStuffer) → Gave given units s → Packed (given ++ []) s.part.bits s.part.len (reverse (line_of units))
unfolding Packed
packed_of given units s gave =
    ap (λ l. bits_of l ++ low_bits s.part.len s.part.bits) (append-nil given) ∙ gave.bits ∙ sym (reverse-reverse (line_of units))

pub packed_start : (given items : List ℕ) (units : List (List ℕ)) (s : PlainStuffer) → items ≡ [] → Gave given units s
    → Packed (given ++ items) s.part.bits s.part.len (reverse (line_of units))
packed_start given items units s none gave =
    let P : List ℕ → Type 0 = λ l. Packed (given ++ l) s.part.bits s.part.len (reverse (line_of units)) in
    subst P (sym none) (packed_of given units s gave)

pub gave_more : (given items octets : List ℕ) (units : List (List ℕ)) (old new : PlainStuffer) → new.started ≡ true → Gave given units old
    → Packed (given ++ items) new.part.bits new.part.len
    (reverse (low_bits 8 126) ++ (stuffed (reverse (bits_of octets)) ++ (opening old.started ++ reverse (line_of units))))
    → Gave (given ++ items) (units ++ octets ∷ []) new
unfolding Packed
gave_more given items octets units old new started gave packed =
    let o : List Bool = opening old.started in
    let s : List Bool = stuffed (reverse (bits_of octets)) in
    let h : List Bool = reverse (line_of units) in
    let turned : reverse (reverse (low_bits 8 126) ++ (s ++ (o ++ h))) ≡ ((line_of units ++ reverse o) ++ reverse s) ++ flag =
    reverse-append (reverse (low_bits 8 126)) (s ++ (o ++ h))
    ∙ ap (λ l. reverse (s ++ (o ++ h)) ++ l) (reverse-reverse (low_bits 8 126) ∙ flag_bits)
    ∙ ap (λ l. l ++ flag) (reverse-append s (o ++ h) ∙ ap (λ l. l ++ reverse s) (reverse-append o h ∙ ap (λ l. l ++ reverse o) (reverse-reverse (line_of units)))) in
    record {
      bits = packed ∙ turned ∙ append_assoc (line_of units ++ reverse o) (reverse s) flag ∙ line_more old.started units octets gave.started;
      started = started ∙ some_more units octets;
    }
