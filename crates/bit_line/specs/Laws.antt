-- Laws over the definitions of this crate, each the contract of a public function.
use Rattle.std.specs.Prelude.{◌≡◌, ◌≢◌, ℕ, ◌+◌, ◌*◌, ◌<◌, ◌≤◌, Bool, true, None, List, [], ◌∷◌}
use Rattle.std.specs.Prelude.{◌++◌, reverse, length}
use Rattle.su_octets.specs.Bits.{bits_of, AreOctets}
use Rattle.bit_line.specs.Events.{AreEvents, AreUnit, Runs, UnitsDecode, closings}
use Rattle.bit_line.specs.Flags.{ends_flag}
use Rattle.bit_line.specs.Sending.{line_of}
use Rattle.bit_line.specs.Deframing.{Stands}
use Rattle.bit_line.specs.declared.receiver.Receiver.{Receiver}
use Rattle.bit_line.specs.declared.events.LineEvent.{LineEvent}
use Rattle.bit_line.specs.declared.events.LineEvent.TheVariants as events

-- line bits have one list of events
abbrev pub OneEvents : Type 0
OneEvents =
    (bits : List Bool) (es fs : List LineEvent) → AreEvents bits es → AreEvents bits fs → es ≡ fs

-- line bits that a deframer has taken have events
abbrev pub StandsHaveEvents : Type 0
StandsHaveEvents =
    (bits : List Bool) (deframer : Receiver) → Stands bits deframer
    → (events : List LineEvent) × AreEvents bits events

-- each unit that is reported for line bits decodes
abbrev pub EventsDecode : Type 0
EventsDecode =
    (bits : List Bool) (events : List LineEvent) → AreEvents bits events → UnitsDecode events

-- More line bits close at most one content for each eight of them, and one for up to seven left
-- over. So eight bits close at most one.
abbrev pub ClosingsArePaced : Type 0
ClosingsArePaced =
    (bits more : List Bool) (before given : List LineEvent) → AreEvents bits before
    → AreEvents (bits ++ more) (before ++ given)
    → 8 * closings given ≤ length more + 7

-- the octets of signal units
abbrev pub AreUnits : List (List ℕ) → Type 0
AreUnits [] = Unit {0}
AreUnits (octets ∷ units) = (AreUnit octets × AreOctets octets) × AreUnits units

-- the reports of correct units
abbrev pub unit_events : List (List ℕ) → List LineEvent
unit_events [] = []
unit_events (octets ∷ units) = events.Unit (record { items = octets }) ∷ unit_events units

abbrev pub without_last : List (List ℕ) → List (List ℕ)
without_last [] = []
without_last (octets ∷ []) = []
without_last (octets ∷ more ∷ units) = octets ∷ without_last (more ∷ units)

-- all units, or all except the last if bits of its closing flag are missing
abbrev pub arrived : List Bool → List (List ℕ) → List (List ℕ)
arrived [] units = units
arrived (b ∷ rest) units = without_last units

-- The line bits are in normal mode and end with a flag. The octets of a fresh stuffer for one or
-- more units follow; fewer than eight bits stay with it. Then exactly the units are reported, in
-- order. If bits stay, the last unit is still missing.
abbrev pub PassesThrough : Type 0
PassesThrough =
    (bits : List Bool) (before after : List LineEvent) (given : List ℕ) (rest : List Bool)
    (units : List (List ℕ))
    → Runs (reverse bits) None before → ends_flag (reverse bits) ≡ true → AreUnits units
    → units ≢ []
    → bits_of given ++ rest ≡ line_of units → length rest < 8
    → AreEvents (bits ++ bits_of given) after
    → after ≡ before ++ unit_events (arrived rest units)
