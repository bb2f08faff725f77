-- The steps of the terminals at both ends of a link in one life of it.
use Rattle.std.specs.Prelude.{◌≡◌, ℕ, ◌-◌, Bool, false, if◌then◌else◌, List, [], ◌∷◌, ◌++◌}
use Rattle.std.specs.Prelude.{length}
use Rattle.std.specs.Option.{option_to_list}
use Rattle.bit_line.specs.declared.events.LineEvent.{LineEvent}
use Rattle.su_octets.specs.declared.units.Unit.{Unit}
use Rattle.su_octets.specs.declared.units.Unit.TheVariants as units
use Rattle.link_transceiver.specs.TransceiverState.{TransceiverState, kept_of}
use Rattle.actor_machine.specs.declared.event.Event.{Event}
use Rattle.link_processes.specs.declared.processes.Processes.{Processes}
use Rattle.link_processes.specs.Machine.{offered, sent, unit_gone}
use Rattle.link_term.specs.Hearing.{Reads, as_unit, as_error, AreTaken, nothing, unit, errored}
use Rattle.link_term.specs.Hearing.{sixteen, Hears, silent, octet}
use Rattle.link_term.specs.Laws.{accepted_along}
use Rattle.link_group.specs.Ends.{Ends, place_behind, Lives}

-- The unit, if it goes through the stores of an end. LSSUs don't, and no unit does while units
-- aren't taken.
abbrev pub heeded : TransceiverState → Unit → List Unit
heeded h (units.Lssu head status second) = []
heeded h (units.Fisu head) = if h.take then units.Fisu head ∷ [] else []
heeded h (units.Msu head sio sif) = if h.take then units.Msu head sio sif ∷ [] else []

-- the units along the octets of a line that go through the stores, in order
abbrev pub units_read : {octets : List ℕ} {t u : Processes} → Reads octets t u → List Unit
units_read (as_unit octets x t frame) = heeded t.transceiver x
units_read (as_error octets t none) = []

abbrev pub units_taken :
    {events : List LineEvent} {t u : Processes} → AreTaken events t u → List Unit
units_taken (nothing t) = []
units_taken (unit octets left t u v read taken) = units_read read ++ units_taken taken
units_taken (errored left t v taken) = units_taken taken
units_taken (sixteen left t v taken) = units_taken taken

abbrev pub units_along :
    {bits : List Bool} {all now : List LineEvent} {t u : Processes} {octets : List ℕ}
    → Hears bits all t octets now u → List Unit
units_along (silent bits all t) = []
units_along (octet bits all given t u v first octets now on room are taken counts hears) =
    units_taken taken ++ units_along hears

-- Of the units under way these arrive, in order. Others before them are lost, and the rest stay
-- under way.
pub data Arrive : List Unit → List Unit → List Unit → Type 0 where
  none_arrives : {us ws : List Unit} → us ≡ ws → Arrive [] us ws
  one_lost : {u : Unit} {us vs ws : List Unit} → Arrive vs us ws → Arrive vs (u ∷ us) ws
  one_arrives : {u v : Unit} {us vs ws : List Unit} → u ≡ v → Arrive vs us ws
      → Arrive (u ∷ vs) (v ∷ us) ws

-- Each step of the terminals at both ends belongs to a life of the link, as long as the directions
-- don't restart in it: an event of the actors, a sent unit, and octets whose units that go through
-- the stores are under way.
pub record TerminalsFare : Type 0 where
  pub near_offered :
      (x : Ends) (t : Processes) (e : Event) → x.near ≡ t.transceiver
      → (offered e t).transceiver.began ≡ false
      → Lives x → Lives (record x { near = (offered e t).transceiver })
  pub far_offered :
      (x : Ends) (t : Processes) (e : Event) → x.far ≡ t.transceiver
      → (offered e t).transceiver.began ≡ false
      → Lives x → Lives (record x { far = (offered e t).transceiver })
  pub near_sends :
      (x : Ends) (t : Processes) → x.near ≡ t.transceiver
      → (unit_gone t).transceiver.began ≡ false → Lives x
      → Lives (record x {
        near = (unit_gone t).transceiver;
        forth = x.forth ++ option_to_list (sent t).unit;
      })
  pub far_sends :
      (x : Ends) (t : Processes) → x.far ≡ t.transceiver
      → (unit_gone t).transceiver.began ≡ false → Lives x
      → Lives (record x {
        far = (unit_gone t).transceiver;
        back = x.back ++ option_to_list (sent t).unit;
      })
  pub near_hears :
      (bits : List Bool) (all now : List LineEvent) (t v : Processes) (octets : List ℕ)
      (h : Hears bits all t octets now v) (x : Ends) (rest : List Unit)
      → x.near ≡ t.transceiver → v.transceiver.began ≡ false
      → Arrive (units_along h) x.back rest → Lives x
      → Lives (record x {
        near = v.transceiver;
        back = rest;
        place = place_behind
            (length (kept_of x.near) - length (kept_of v.transceiver)) x.place;
      })
  pub far_hears :
      (bits : List Bool) (all now : List LineEvent) (t v : Processes) (octets : List ℕ)
      (h : Hears bits all t octets now v) (x : Ends) (rest : List Unit)
      → x.far ≡ t.transceiver → v.transceiver.began ≡ false
      → Arrive (units_along h) x.forth rest → Lives x
      → Lives (record x {
        far = v.transceiver;
        forth = rest;
        delivered = x.delivered ++ accepted_along h;
      })
