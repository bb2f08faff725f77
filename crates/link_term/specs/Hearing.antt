-- The effect of received line octets.
use Rattle.std.specs.Prelude.{◌≡◌, ℕ, ◌<◌, Bool, false, List, [], ◌∷◌, ◌++◌, length}
use Rattle.su_octets.specs.Bits.{low_bits, bits_of}
use Rattle.su_octets.specs.Frame.{Frame}
use Rattle.su_octets.specs.declared.units.Unit as units
use Rattle.bit_line.specs.Deframing.{Stands}
use Rattle.bit_line.specs.Events.{AreEvents, IsCounting}
use Rattle.bit_line.specs.declared.events.LineEvent.{LineEvent}
use Rattle.bit_line.specs.declared.events.LineEvent.TheVariants as event
use Rattle.link_processes.specs.declared.processes.Processes.{Processes}
use Rattle.link_processes.specs.Machine.{unit_taken, error_taken, octets_taken, counting_told}
use Rattle.link_processes.specs.Machine.{tidied}
use Rattle.link_transceiver.specs.Limits.{KEPT_MESSAGES}
use Rattle.link_term.specs.Term.{Term}

-- octets between two flags are taken as a unit if they are one, otherwise as an error
pub data Reads : List ℕ → Processes → Processes → Type 0 where
  as_unit : (octets : List ℕ) (u : units.Unit) (t : Processes) → Frame octets u
      → Reads octets t (unit_taken u t)
  as_error : (octets : List ℕ) (t : Processes) → ((u : units.Unit) → Frame octets u → ⊥)
      → Reads octets t (error_taken t)

-- The effect of events of the line, in order. A unit ends octet counting, which the monitors are
-- told before it is taken.
pub data AreTaken : List LineEvent → Processes → Processes → Type 0 where
  nothing : (t : Processes) → AreTaken [] t t
  unit : (octets : List ℕ) (left : List LineEvent) (t u v : Processes)
      → Reads octets (counting_told false t) u → AreTaken left u v
      → AreTaken (event.Unit (record { items = octets }) ∷ left) t v
  errored : (left : List LineEvent) (t v : Processes) → AreTaken left (error_taken t) v
      → AreTaken (event.Errored ∷ left) t v
  sixteen : (left : List LineEvent) (t v : Processes) → AreTaken left (octets_taken t) v
      → AreTaken (event.SixteenOctets ∷ left) t v

-- Octets, each with room for a message. For each, room is made in the journal if needed. Then the
-- events that it adds to `all`, those of the earlier bits, are taken. Then the monitors are told
-- whether octets are counted. `now` has all events after the last octet.
pub data Hears :
    List Bool → List LineEvent → Processes → List ℕ → List LineEvent → Processes → Type 0 where
  silent : (bits : List Bool) (all : List LineEvent) (t : Processes) → Hears bits all t [] all t
  octet : (bits : List Bool) (all given : List LineEvent) (t u v : Processes) (first : ℕ)
      (octets : List ℕ) (now : List LineEvent) (on : Bool)
      → length t.transceiver.messages < KEPT_MESSAGES
      → AreEvents (bits ++ low_bits 8 first) (all ++ given)
      → AreTaken given (tidied t) u
      → IsCounting (bits ++ low_bits 8 first) on
      → Hears (bits ++ low_bits 8 first) (all ++ given) (counting_told on u) octets now v
      → Hears bits all t (first ∷ octets) now v

-- a terminal after these octets, whatever line bits were received before
pub record Heard (old : Term) (octets : List ℕ) (new : Term) : Type 0 where
  pub stands : (bits : List Bool) → Stands bits old.line → Stands (bits ++ bits_of octets) new.line
  pub hears : (bits : List Bool) (all : List LineEvent) → Stands bits old.line → AreEvents bits all
      → (now : List LineEvent) × AreEvents (bits ++ bits_of octets) now
      × Hears bits all old.processes octets now new.processes
  pub sending : new.sending ≡ old.sending
