-- The unit that a receiver reports.
use Rattle.std.proofs.Common.{◌≡◌, ℕ, ◌+◌, ◌≤◌, ◌<◌, zero, suc, List, [], ◌∷◌, ◌++◌, length, take, get_or, refl, sym, ap, ◌∙◌, subst, arith}
use Rattle.std.proofs.lemmas.List.{take_more}
use Rattle.std.proofs.lemmas.Grind.{flat_map-append}
use Rattle.std.specs.List.{flat_map}
use Rattle.std.proofs.Common.{Bool, Option, append-nil}
use Rattle.su_octets.specs.Bits.{bits_of, low_bits}
use Rattle.su_octets.proofs.BitLists.{bits_of-append}
use Rattle.bit_line.specs.Events.{AreEvents, closings}
use Rattle.bit_line.specs.Deframing.{Stands}
use Rattle.bit_line.specs.declared.deframer.Deframer.{Deframer}
use Rattle.bit_line.proofs.EventLaws.{stands_events}
use Rattle.bit_line.specs.declared.events.LineEvent.{LineEvent}
use Rattle.bit_line.specs.declared.events.LineEvent.TheVariants as events
use Rattle.line_streams.specs.Capturing.{Ends, listed, unit_of, units_of, without_check}

-- If nothing is closed, no unit is reported.
none_closed : (es : List LineEvent) → closings es ≡ 0 → units_of es ≡ []
none_closed [] none = refl
none_closed (events.Unit octets ∷ es) none = absurd (omega (arith, none))
none_closed (events.Errored ∷ es) none = absurd (omega (arith, none))
none_closed (events.SixteenOctets ∷ es) none = none_closed es none

-- One more event without a unit.
pub none_more : (es : List LineEvent) (i : ℕ) (d e : LineEvent) → i < length es → get_or es i d ≡ e → unit_of e ≡ [] → units_of (take i es) ≡ []
    → units_of (take (i + 1) es) ≡ []
none_more es i d e within is none before =
    ap units_of (take_more es i d within) ∙ flat_map-append unit_of (take i es) (get_or es i d ∷ [])
    ∙ ap (λ l. l ++ units_of (get_or es i d ∷ [])) before ∙ ap (λ x. units_of (x ∷ [])) is ∙ ap (λ l. l ++ []) none

few : (n : ℕ) → 1 + n ≤ 1 → n ≡ 0
few n h = omega (arith, h)

fewer : (n : ℕ) → 1 + n ≤ 1 → n ≤ 1
fewer n h = omega (arith, h)

-- The first unit is the only one if at most one content is closed.
pub first_unit : (es : List LineEvent) (i : ℕ) (d e : LineEvent) (unit : List ℕ) → i < length es → get_or es i d ≡ e → unit_of e ≡ unit ∷ []
    → units_of (take i es) ≡ [] → closings es ≤ 1 → units_of es ≡ unit ∷ []
first_unit [] i d e unit within is one none most = absurd (omega (arith, within))
first_unit (events.Unit octets ∷ es) zero d e unit within is one none most =
    ap (λ l. unit_of (events.Unit octets) ++ l) (none_closed es (few (closings es) most)) ∙ ap (λ x. unit_of x ++ []) is ∙ ap (λ l. l ++ []) one
first_unit (events.Errored ∷ es) zero d e unit within is one none most =
    ap (λ l. unit_of events.Errored ++ l) (none_closed es (few (closings es) most)) ∙ ap (λ x. unit_of x ++ []) is ∙ ap (λ l. l ++ []) one
first_unit (events.SixteenOctets ∷ es) zero d e unit within is one none most = absurd (let h : [] ≡ unit ∷ [] = ap unit_of is ∙ one in cc)
first_unit (events.Unit octets ∷ es) (suc i) d e unit within is one none most = absurd (let h : without_check octets.items ∷ units_of (take i es) ≡ [] = none in cc)
first_unit (events.Errored ∷ es) (suc i) d e unit within is one none most =
    first_unit es i d e unit (omega (arith, within)) is one none (fewer (closings es) most)
first_unit (events.SixteenOctets ∷ es) (suc i) d e unit within is one none most =
    first_unit es i d e unit (omega (arith, within)) is one none most

-- ---- an octet that ends a unit

pub one_octet : (octets : List ℕ) (octet : ℕ) → bits_of octets ++ low_bits 8 octet ≡ bits_of (octets ++ octet ∷ [])
unfolding bits_of
one_octet octets octet =
    ap (λ l. bits_of octets ++ l) (sym (append-nil (low_bits 8 octet))) ∙ sym (bits_of-append octets (octet ∷ []))

pub ends_unit : (octets : List ℕ) (octet : ℕ) (d : Deframer) (more slice : List LineEvent) (unit : Option (List ℕ)) → Stands (bits_of octets) d
    → ((bits : List Bool) (all : List LineEvent) → Stands bits d → AreEvents bits all → AreEvents (bits ++ low_bits 8 octet) (all ++ more))
    → ((bits : List Bool) → Stands bits d → closings more ≤ 1) → slice ≡ more → (closings slice ≤ 1 → units_of slice ≡ listed unit) → Ends octets octet unit
ends_unit octets octet d more slice unit stands grow one same is =
    let all = stands_events (bits_of octets) d stands in
    let P : List Bool → Type 0 = λ bits. AreEvents bits (all.0 ++ more) in
    let Q : List LineEvent → Type 0 = λ es. closings es ≤ 1 → units_of es ≡ listed unit in
    record {
      before = all.0;
      more = more;
      are_before = all.1;
      are = subst P (one_octet octets octet) (grow (bits_of octets) all.0 stands all.1);
      unit_is = subst Q same is (one (bits_of octets) stands);
    }
