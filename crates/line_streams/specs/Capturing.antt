-- The units seen in the octets of a line, when one is sent and one received at a time.
use Rattle.std.specs.Prelude.{◌≡◌, ℕ, ◌+◌, ◌*◌, ◌-◌, Bool, true, false, List, [], ◌∷◌, ◌++◌}
use Rattle.std.specs.Prelude.{length, take, reverse, Option, Some, None}
use Rattle.std.specs.List.{flat_map}
use Rattle.su_octets.specs.Bits.{bits_of}
use Rattle.bit_line.specs.Events.{AreEvents}
use Rattle.bit_line.specs.Deframing.{Stands}
use Rattle.bit_line.specs.declared.events.LineEvent.{LineEvent}
use Rattle.bit_line.specs.declared.events.LineEvent.TheVariants as events
use Rattle.line_streams.specs.declared.seen.Seen.{Seen}
use Rattle.line_streams.specs.declared.capture.Capture.{Capture}
use Rattle.line_streams.specs.Records.{HEADER, record_of}
use Rattle.line_streams.specs.Repeats.{kept, StandsFor}

-- A unit without its two check octets.
abbrev pub without_check : List ℕ → List ℕ
without_check octets = take (length octets - 2) octets

-- The units that are reported, without their check octets.
abbrev pub unit_of : LineEvent → List (List ℕ)
unit_of (events.Unit octets) = without_check octets.items ∷ []
unit_of events.Errored = []
unit_of events.SixteenOctets = []

abbrev pub units_of : List LineEvent → List (List ℕ)
units_of = flat_map unit_of

abbrev pub listed : {A : Type 0} → Option A → List A
listed None = []
listed (Some x) = x ∷ []

-- After these octets of one direction, this octet ends this unit, or none: the further events that
-- a receiver reports with it have this unit, or none.
pub record Ends (octets : List ℕ) (octet : ℕ) (unit : Option (List ℕ)) : Type 0 where
  pub before : List LineEvent
  pub more : List LineEvent
  pub are_before : AreEvents (bits_of octets) before
  pub are : AreEvents (bits_of (octets ++ octet ∷ [])) (before ++ more)
  pub unit_is : units_of more ≡ listed unit

-- Microseconds per octet on a line of 64 kbit/s.
abbrev pub OCTET : ℕ
OCTET = 125

-- A seen unit is added before those of earlier octets.
abbrev pub IsUnit : Bool → ℕ → ℕ → Option (List ℕ) → List Seen → List Seen → Type 0
IsUnit went link at None old new = new ≡ old
IsUnit went link at (Some octets) old [] = ⊥
IsUnit went link at (Some octets) old (s ∷ more) =
    (s.went ≡ went) × (s.link ≡ link) × (s.at ≡ at) × (s.octets.items ≡ octets) × (more ≡ old)

-- These units were seen in the octets sent and received, the newest first, each at the microsecond
-- of the octet that ends it. In an exchange the octet sent comes first.
pub data Sees (link : ℕ) : List ℕ → List ℕ → List Seen → Type 0 where
  nothing : Sees link [] [] []
  exchange : {gone come : List ℕ} {seen : List Seen} (out octet : ℕ) (sent heard : Option (List ℕ))
      (middle last : List Seen) → Sees link gone come seen → Ends gone out sent
      → IsUnit true link (OCTET * (length come + 1)) sent seen middle
      → Ends come octet heard
      → IsUnit false link (OCTET * (length come + 1)) heard middle last
      → Sees link (gone ++ out ∷ []) (come ++ octet ∷ []) last

-- The octets of a capture in which these units were seen, the newest first.
abbrev pub capture_of : Bool → List Seen → List ℕ
capture_of every seen = HEADER ++ flat_map record_of (reverse (kept every seen))

-- A capture in progress: its state after these octets and units.
pub record Captures (gone come : List ℕ) (seen : List Seen) (c : Capture) : Type 0 where
  pub sees : Sees c.link gone come seen
  pub out : Stands (bits_of gone) c.gone
  pub in_ : Stands (bits_of come) c.come
  pub at : c.at ≡ OCTET * length come
  pub recalls : StandsFor c.link (kept c.repeats.every seen) c.repeats
