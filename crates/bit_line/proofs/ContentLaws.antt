-- The bits of a content: its fields, and how it is judged.
use Rattle.std.proofs.Common.{◌≡◌, ℕ, ◌+◌, ◌*◌, ◌<◌, ◌≤◌, zero, suc, min, Bool, true, false, Some, None, List, [], ◌∷◌, ◌++◌, length, get_or, reverse, refl, sym, ap, ◌∙◌, arith, inl, inr, subst, append_assoc, lit≤}
use Rattle.std.proofs.lemmas.Bool.Decides.{nat_tests, eqb_tells}
use Rattle.std.specs.Bool.{MatchBool}
use Rattle.std.specs.Prelude.{IsTrue, ◌↔◌, ◌⊎◌, ◌==◌, nat_lt, nat_le, ◌||◌, ◌≢◌}
use Rattle.std.proofs.lemmas.Bool.{lt-ltb, ltb-true, le-ltb, or_right}
use Rattle.std.proofs.lemmas.List.{append-nil, length-append, length-reverse, reverse-reverse}
use Rattle.su_octets.specs.Bits.{low_bits, bits_of, AreOctets}
use Rattle.su_octets.specs.Whole.{IsWhole}
use Rattle.su_octets.specs.Frame.{Frame, body_of, content_of}
use Rattle.su_octets.specs.declared.units.Unit as units
use Rattle.su_octets.specs.declared.units.Unit.TheVariants as kinds
use Rattle.bit_line.specs.Parts.{Packed}
use Rattle.bit_line.specs.Stuffing.{trailing, stuffed, taken_out}
use Rattle.bit_line.specs.Deframing.{Gathers, Holds, has_six}
use Rattle.bit_line.specs.Events.{AreUnit, IsCorrect}
use Rattle.bit_line.specs.declared.data.Data.{Data}
use Rattle.bit_line.specs.declared.content.Content.{Content}
use Rattle.bit_line.proofs.BitLists.{reverse-cons}
use Rattle.bit_line.proofs.StuffLaws.{IsStuffing, is_stuffing, stuffed-taken_out, with_zero-other, trailing-one, trailing-zero, taken_out-one, taken_out-five, taken_out-other}
use Rattle.su_octets.proofs.BitLists.{length-low_bits, bits_of-append, length-bits_of, bits_of-same, octet_bits, no_low_bits}

-- ---- packed bits
pub packed-more : (octets : List ℕ) (bits len v : ℕ) (b : Bool) (h : List Bool) → low_bits (len + 1) v ≡ low_bits len bits ++ b ∷ []
    → Packed octets bits len h → Packed octets v (len + 1) (b ∷ h)
unfolding Packed
packed-more octets bits len v b h is packed =
    ap (λ l. bits_of octets ++ l) is ∙ sym (append_assoc (bits_of octets) (low_bits len bits) (b ∷ [])) ∙ ap (λ l. l ++ b ∷ []) packed ∙ sym (reverse-cons b h)

pub packed-octet : (octets : List ℕ) (v bits len : ℕ) (h : List Bool) → len ≡ 0 → Packed octets v 8 h → Packed (octets ++ v ∷ []) bits len h
unfolding Packed
packed-octet octets v bits len h none packed =
    ap (λ l. bits_of (octets ++ v ∷ []) ++ l) (ap (λ n. low_bits n bits) none ∙ no_low_bits bits) ∙ append-nil (bits_of (octets ++ v ∷ []))
    ∙ bits_of-append octets (v ∷ []) ∙ ap (λ l. bits_of octets ++ l) (octet_bits v) ∙ packed

pub packed-whole : (octets : List ℕ) (bits len v bits2 len2 : ℕ) (b : Bool) (h : List Bool) → low_bits (len + 1) v ≡ low_bits len bits ++ b ∷ [] → len ≡ 7 → len2 ≡ 0
    → Packed octets bits len h → Packed (octets ++ v ∷ []) bits2 len2 (b ∷ h)
packed-whole octets bits len v bits2 len2 b h is seven none packed =
    let P : ℕ → Type 0 = λ n. Packed octets v n (b ∷ h) in
    let eight : len + 1 ≡ 8 = omega arith in
    packed-octet octets v bits2 len2 (b ∷ h) none (subst P eight (packed-more octets bits len v b h is packed))

pub packed-same : (octets : List ℕ) (bits len : ℕ) (h : List Bool) → Packed octets bits len h → Packed (octets ++ []) bits len h
packed-same octets bits len h packed = let P : List ℕ → Type 0 = λ os. Packed os bits len h in subst P (sym (append-nil octets)) packed

pub packed-length : (octets : List ℕ) (bits len : ℕ) (h : List Bool) → Packed octets bits len h → 8 * length octets + len ≡ length h
unfolding Packed
packed-length octets bits len h packed =
    let whole : length (bits_of octets ++ low_bits len bits) ≡ length h = ap length packed ∙ length-reverse h in
    omega (arith, whole, length-append (bits_of octets) (low_bits len bits), length-bits_of octets, length-low_bits len bits)

pub packed-none : (octets : List ℕ) (bits len : ℕ) → octets ≡ [] → len ≡ 0 → Packed octets bits len []
unfolding Packed bits_of low_bits
packed-none octets bits len none zero_len = rw (none, zero_len) refl

full_by : {n m : ℕ} → ((n == m) ≡ true) × (n ≡ m) ⊎ ((n == m) ≡ false) × (n ≢ m) → (n == m) ≡ true → n ≡ m
full_by (inl t) is = t.1
full_by (inr t) is = absurd (let e : true ≡ false = sym is ∙ t.0 in cc)

room_by : {n m : ℕ} → ((n == m) ≡ true) × (n ≡ m) ⊎ ((n == m) ≡ false) × (n ≢ m) → (n == m) ≡ false → n ≤ m → n < m
room_by (inl t) is most = absurd (let e : true ≡ false = sym t.0 ∙ is in cc)
room_by (inr t) is most = let other = t.1 in omega (arith, other)

-- ---- data
pub full_of : (r : Bool) (n m : ℕ) → r ≡ true → r ≡ (n == m) → n ≡ m
full_of r n m was is = full_by (eqb_tells n m) (sym is ∙ was)

pub room_of : (r : Bool) (n m : ℕ) → r ≡ false → r ≡ (n == m) → n ≤ m → n < m
room_of r n m was is most = room_by (eqb_tells n m) (sym is ∙ was) most

pub gathers-none : (d : Data) → d.octets.items ≡ [] → d.part.len ≡ 0 → d.over ≡ false → Gathers [] d
gathers-none d none len over = record { over = over; bits = λ _. packed-none d.octets.items d.part.bits d.part.len none len }

over_full : (o : Bool) (n m : ℕ) → o ≡ nat_lt 2224 n → (o ≡ false → 2224 ≤ n) → true ≡ nat_lt 2224 (suc n)
over_full true n m is long = let above : 2224 < n = ltb-true 2224 n (sym is) in sym (lt-ltb 2224 (suc n) (omega arith))
over_full false n m is long = let above : 2224 ≤ n = long refl in sym (lt-ltb 2224 (suc n) (omega arith))

pub gathers-full : (b : Bool) (h : List Bool) (old new : Data) → length old.octets.items ≡ 278 → new.over ≡ true → Gathers h old → Gathers (b ∷ h) new
gathers-full b h old new full over gathers = record {
  over = over ∙ over_full old.over (length h) 0 gathers.over
      (λ not_over. let whole : 8 * length old.octets.items + old.part.len ≡ length h = packed-length old.octets.items old.part.bits old.part.len h (gathers.bits not_over) in omega arith);
  bits = λ not_over. absurd (let e : true ≡ false = sym over ∙ not_over in cc);
}

over_same : (o : Bool) (n m : ℕ) → o ≡ nat_lt 2224 n → (o ≡ false → n < 2224) → o ≡ nat_lt 2224 (suc n)
over_same true n m is short = let above : 2224 < n = ltb-true 2224 n (sym is) in sym (lt-ltb 2224 (suc n) (omega arith))
over_same false n m is short = let below : n < 2224 = short refl in sym (le-ltb 2224 (suc n) (omega arith))

pub gathers-more : (b : Bool) (h : List Bool) (old new : Data) → length old.octets.items < 278 → old.part.len < 8 → new.over ≡ old.over
    → (Packed old.octets.items old.part.bits old.part.len h → Packed new.octets.items new.part.bits new.part.len (b ∷ h)) → Gathers h old → Gathers (b ∷ h) new
gathers-more b h old new room len over packed gathers = record {
  over = over ∙ over_same old.over (length h) 0 gathers.over
      (λ not_over. let whole : 8 * length old.octets.items + old.part.len ≡ length h = packed-length old.octets.items old.part.bits old.part.len h (gathers.bits not_over) in omega arith);
  bits = λ not_over. packed (gathers.bits (sym over ∙ not_over));
}

pub gathers-empty : (h : List Bool) (d : Data) → Gathers h d → d.over ≡ false → length d.octets.items ≡ 0 → d.part.len ≡ 0 → h ≡ []
gathers-empty [] d gathers over none len = refl
gathers-empty (b ∷ h) d gathers over none len =
    absurd (let whole : 8 * length d.octets.items + d.part.len ≡ length (b ∷ h) = packed-length d.octets.items d.part.bits d.part.len (b ∷ h) (gathers.bits over) in omega arith)

pub gathers-some : (d : Data) → Gathers [] d → (d.over ≡ false) × (length d.octets.items ≡ 0) × (d.part.len ≡ 0)
gathers-some d gathers =
    let over : d.over ≡ false = gathers.over in
    let whole : 8 * length d.octets.items + d.part.len ≡ 0 = packed-length d.octets.items d.part.bits d.part.len [] (gathers.bits over) in
    (over, omega arith, omega arith)

not_empty : (h : List Bool) (d : Data) → Gathers h d → ((d.over ≡ false) × (length d.octets.items ≡ 0) × (d.part.len ≡ 0) → ⊥) → h ≡ [] → ⊥
not_empty h d gathers some none = let P : List Bool → Type 0 = λ l. Gathers l d in some (gathers-some d (subst P none gathers))

pub not_empty-over : (h : List Bool) (d : Data) → Gathers h d → d.over ≡ true → h ≡ [] → ⊥
not_empty-over h d gathers over = not_empty h d gathers (λ all. let e : true ≡ false = sym over ∙ all.0 in cc)

positive : (r : Bool) (n : ℕ) → r ≡ false → r ≡ (n == 0) → 0 < n
positive r zero was is = absurd (let e : false ≡ true = sym was ∙ is in cc)
positive r (suc n) was is = omega arith

pub not_empty-octets : (h : List Bool) (d : Data) (r : Bool) → Gathers h d → r ≡ false → r ≡ (length d.octets.items == 0) → h ≡ [] → ⊥
not_empty-octets h d r gathers was is = not_empty h d gathers (λ all. let some : 0 < length d.octets.items = positive r (length d.octets.items) was is in omega (arith, some, all.1))

empty_by : (h : List Bool) (d : Data) → Gathers h d → d.over ≡ false → length d.octets.items ≡ 0
    → ((d.part.len == 0) ≡ true) × (d.part.len ≡ 0) ⊎ ((d.part.len == 0) ≡ false) × (d.part.len ≢ 0) → MatchBool (d.part.len == 0) (h ≡ []) (h ≡ [] → ⊥)
empty_by h d gathers over none (inl t) = let P : Bool → Type 0 = λ b. MatchBool b (h ≡ []) (h ≡ [] → ⊥) in subst P (sym t.0) (gathers-empty h d gathers over none t.1)
empty_by h d gathers over none (inr t) = let P : Bool → Type 0 = λ b. MatchBool b (h ≡ []) (h ≡ [] → ⊥) in subst P (sym t.0) (not_empty h d gathers (λ all. t.1 all.2))

pub empty_when : (h : List Bool) (d : Data) (r : Bool) → Gathers h d → d.over ≡ false → r ≡ true → r ≡ (length d.octets.items == 0)
    → MatchBool (d.part.len == 0) (h ≡ []) (h ≡ [] → ⊥)
empty_when h d r gathers over was is = empty_by h d gathers over (full_of r (length d.octets.items) 0 was is) (eqb_tells d.part.len 0)

-- ---- content
pub holds-none : (c : Content) → c.ones ≡ 0 → c.six ≡ false → Gathers [] c.data_bits → Holds [] c
unfolding trailing has_six taken_out
holds-none c ones six gathers = record { ones = ones; six = six; gathers = gathers }

six_by : (n : ℕ) (s : Bool) → (s || (min 6 (suc n) == 6)) ≡ (nat_le 6 (suc n) || s)
six_by n true = sym (or_right (nat_le 6 (suc n)) true refl)
six_by n false = grind (arith, nat_tests)

pub holds-one : (h : List Bool) (old new : Content) → new.ones ≡ min old.ones 5 + 1 → new.six ≡ (old.six || (new.ones == 6))
    → Gathers (true ∷ taken_out h) new.data_bits → Holds h old → Holds (true ∷ h) new
unfolding has_six
holds-one h old new ones six gathers holds =
    let count : trailing (true ∷ h) ≡ suc (trailing h) = trailing-one h in
    let now : new.ones ≡ min 6 (suc (trailing h)) = ones ∙ (let e : min old.ones 5 + 1 ≡ min 6 (suc (trailing h)) = omega (arith, holds.ones) in e) in
    let P : List Bool → Type 0 = λ l. Gathers l new.data_bits in
    record {
      ones = now ∙ ap (λ n. min 6 n) (sym count);
      six = six ∙ ap (λ s. s || (new.ones == 6)) holds.six ∙ ap (λ n. has_six h || (n == 6)) now ∙ six_by (trailing h) (has_six h)
          ∙ ap (λ n. nat_le 6 n || has_six h) (sym count);
      gathers = subst P (sym (taken_out-one h)) gathers;
    }

pub holds-zero : (h : List Bool) (old new : Content) → (old.ones ≡ 5 → ⊥) → new.ones ≡ 0 → new.six ≡ old.six → Gathers (false ∷ taken_out h) new.data_bits
    → Holds h old → Holds (false ∷ h) new
unfolding has_six
holds-zero h old new other ones six gathers holds =
    let not_five : trailing h ≡ 5 → ⊥ = λ five. other (omega (arith, holds.ones, five)) in
    let P : List Bool → Type 0 = λ l. Gathers l new.data_bits in
    record {
      ones = ones ∙ ap (λ n. min 6 n) (sym (trailing-zero h));
      six = six ∙ holds.six ∙ ap (λ n. nat_le 6 n || has_six h) (sym (trailing-zero h));
      gathers = subst P (sym (taken_out-other h not_five)) gathers;
    }

pub holds-inserted : (h : List Bool) (old new : Content) → old.ones ≡ 5 → new.ones ≡ 0 → new.six ≡ old.six → new.data_bits ≡ old.data_bits → Holds h old → Holds (false ∷ h) new
unfolding has_six
holds-inserted h old new five ones six same holds =
    let is_five : trailing h ≡ 5 = omega (arith, holds.ones, five) in
    let P : List Bool → Type 0 = λ l. Gathers l new.data_bits in
    let Q : Data → Type 0 = λ d. Gathers (taken_out h) d in
    record {
      ones = ones ∙ ap (λ n. min 6 n) (sym (trailing-zero h));
      six = six ∙ holds.six ∙ ap (λ n. nat_le 6 n || has_six h) (sym (trailing-zero h));
      gathers = subst P (sym (taken_out-five h is_five)) (subst Q (sym same) holds.gathers);
    }

-- ---- judging
body_fits : (unit : units.Unit) → IsWhole unit → length (body_of unit) ≤ 273
body_fits (kinds.Fisu head) whole = lit≤ tt
body_fits (kinds.Lssu head status None) whole = lit≤ tt
body_fits (kinds.Lssu head status (Some second)) whole = lit≤ tt
body_fits (kinds.Msu head sio sif) whole = omega (arith, whole.2)

-- a unit has at least 5 octets and at most 278
pub unit_fits : (octets : List ℕ) → AreUnit octets → (5 ≤ length octets) × (length octets ≤ 278)
unit_fits octets is =
    let frame : Frame octets is.0 = is.1 in
    let long : length octets ≡ length (content_of is.0 frame.spare) + length frame.check =
    ap length frame.all ∙ length-append (content_of is.0 frame.spare) frame.check in
    let body : length (body_of is.0) ≤ 273 = body_fits is.0 frame.whole in
    (omega (arith, long, frame.checked.two), omega (arith, long, frame.checked.two, body))

-- the bits of a correct content
pub correct_shape : (h : List Bool) (octets : List ℕ) → IsCorrect h octets → IsStuffing h (reverse (bits_of octets))
correct_shape h octets correct =
    let P : List Bool → Type 0 = λ l. IsStuffing l (reverse (bits_of octets)) in
    subst P (sym correct.stuffing) (is_stuffing (reverse (bits_of octets)))

correct_length : (h : List Bool) (octets : List ℕ) → IsCorrect h octets → length (taken_out h) ≡ 8 * length octets
correct_length h octets correct =
    ap length (correct_shape h octets correct).back ∙ length-reverse (bits_of octets) ∙ length-bits_of octets

pub not_six : (h : List Bool) (c : Content) (octets : List ℕ) → Holds h c → c.six ≡ true → IsCorrect h octets → ⊥
not_six h c octets holds six correct =
    let e : true ≡ false = sym six ∙ holds.six ∙ (correct_shape h octets correct).no_six in cc

pub not_five : (h : List Bool) (c : Content) (octets : List ℕ) → Holds h c → c.ones ≡ 5 → IsCorrect h octets → ⊥
not_five h c octets holds five correct =
    omega (arith, holds.ones, five, (correct_shape h octets correct).few)

pub not_over : (h : List Bool) (c : Content) (octets : List ℕ) → Holds h c → c.data_bits.over ≡ true → IsCorrect h octets → ⊥
not_over h c octets holds over correct =
    let above : 2224 < length (taken_out h) = ltb-true 2224 (length (taken_out h)) (sym holds.gathers.over ∙ over) in
    omega (arith, above, correct_length h octets correct, unit_fits octets correct.unit)

pub not_part : (h : List Bool) (c : Content) (octets : List ℕ) → Holds h c → c.data_bits.over ≡ false → (c.data_bits.part.len ≡ 0 → ⊥) → c.data_bits.part.len < 8
    → IsCorrect h octets → ⊥
not_part h c octets holds over some few correct =
    let whole : 8 * length c.data_bits.octets.items + c.data_bits.part.len ≡ length (taken_out h) =
    packed-length c.data_bits.octets.items c.data_bits.part.bits c.data_bits.part.len (taken_out h) (holds.gathers.bits over) in
    some (omega (arith, whole, correct_length h octets correct, few))

whole_bits : (h : List Bool) (c : Content) → Holds h c → c.data_bits.over ≡ false → c.data_bits.part.len ≡ 0 → bits_of c.data_bits.octets.items ≡ reverse (taken_out h)
unfolding Packed
whole_bits h c holds over none =
    sym (append-nil (bits_of c.data_bits.octets.items))
    ∙ ap (λ l. bits_of c.data_bits.octets.items ++ l) (sym (ap (λ n. low_bits n c.data_bits.part.bits) none ∙ no_low_bits c.data_bits.part.bits))
    ∙ holds.gathers.bits over

pub not_unit : (h : List Bool) (c : Content) (octets : List ℕ) → Holds h c → c.data_bits.over ≡ false → c.data_bits.part.len ≡ 0 → AreOctets c.data_bits.octets.items
    → (AreUnit c.data_bits.octets.items → ⊥) → IsCorrect h octets → ⊥
not_unit h c octets holds over none fit other correct =
    let whole : bits_of c.data_bits.octets.items ≡ reverse (taken_out h) = whole_bits h c holds over none in
    let same_bits : bits_of c.data_bits.octets.items ≡ bits_of octets =
    whole ∙ ap reverse (correct_shape h octets correct).back ∙ reverse-reverse (bits_of octets) in
    let long : length c.data_bits.octets.items ≡ length octets =
    omega (arith, length-bits_of c.data_bits.octets.items, length-bits_of octets, ap length same_bits) in
    let same : c.data_bits.octets.items ≡ octets = bits_of-same c.data_bits.octets.items octets fit correct.octets_fit long same_bits in
    other (subst AreUnit (sym same) correct.unit)

pub is_correct : (h : List Bool) (c : Content) → Holds h c → c.six ≡ false → (c.ones ≡ 5 → ⊥) → c.data_bits.over ≡ false → c.data_bits.part.len ≡ 0
    → AreOctets c.data_bits.octets.items → AreUnit c.data_bits.octets.items → IsCorrect h c.data_bits.octets.items
is_correct h c holds six other over none fit is_unit =
    let whole : bits_of c.data_bits.octets.items ≡ reverse (taken_out h) = whole_bits h c holds over none in
    let back : reverse (bits_of c.data_bits.octets.items) ≡ taken_out h = ap reverse whole ∙ reverse-reverse (taken_out h) in
    let no_five : trailing h ≡ 5 → ⊥ = λ five. other (omega (arith, holds.ones, five)) in
    record {
      unit = is_unit;
      octets_fit = fit;
      stuffing = sym (ap stuffed back ∙ stuffed-taken_out h (sym holds.six ∙ six) ∙ with_zero-other h no_five);
    }

-- numbers below 256 are octets
pub octets_fit : (octets : List ℕ) → ((i : ℕ) → get_or octets i 0 < 256) → AreOctets octets
octets_fit [] fit = tt
octets_fit (o ∷ os) fit = (fit 0, octets_fit os (λ i. fit (suc i)))

-- a wrong content
pub is_wrong : (h : List Bool) (c : Content) → Holds h c → (taken_out h ≡ [] → ⊥) → ((octets : List ℕ) → IsCorrect h octets → ⊥) → (h ≢ []) × ((octets : List ℕ) → IsCorrect h octets → ⊥)
unfolding taken_out
is_wrong h c holds some other = (λ none. some (ap taken_out none), other)

pub unit_when : (octets : List ℕ) (b : Bool) → IsTrue b ↔ AreUnit octets → MatchBool b (AreUnit octets) (AreUnit octets → ⊥)
unit_when octets true is = is.0 refl
unit_when octets false is = λ unit. let e : false ≡ true = is.1 unit in cc
