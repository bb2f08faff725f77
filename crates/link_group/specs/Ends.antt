-- One direction of a link between its two ends, over one life of it: from a restart of both
-- directions to the next.
use Rattle.std.specs.Prelude.{◌≡◌, ℕ, ◌-◌, Bool, true, false, Option, Some, None, List, [], ◌∷◌}
use Rattle.std.specs.Prelude.{◌++◌, length}
use Rattle.resend_store.specs.declared.messages.Msu.{Msu}
use Rattle.resend_store.specs.Window.{emptied}
use Rattle.su_octets.specs.declared.units.Unit.{Unit}
use Rattle.link_transceiver.specs.declared.offers.UnitOut.{UnitOut}
use Rattle.link_transceiver.specs.declared.signals.EnvSignal.{EnvSignal}
use Rattle.link_transceiver.specs.declared.signals.EnvSignal.TheVariants as signal
use Rattle.link_transceiver.specs.declared.signals.Hold.{Hold}
use Rattle.link_transceiver.specs.TransceiverState.{TransceiverState, is_held, kept_of}
use Rattle.link_transceiver.specs.TransceiverState.{last_accepted}
use Rattle.link_transceiver.specs.Effects.{effect, renewed, clears}
use Rattle.link_transceiver.specs.Judging.{judged}
use Rattle.link_transceiver.specs.Going.{gone}
use Rattle.link_transceiver.specs.Reporting.{reported}
use Rattle.link_transceiver.specs.Laws.{accepted_of}
use Rattle.link_group.specs.OneLink.{count_told, lacking}

pub record Ends : Type 0 where
  -- the end that sends messages, and the one that accepts them
  pub near : TransceiverState
  pub far : TransceiverState
  -- units under way from near to far, and back; the next to arrive is first
  pub forth : List Unit
  pub back : List Unit
  -- the messages held near at the restart, and those given to it since
  pub taken : List Msu
  -- the messages that far accepted since, in order
  pub delivered : List Msu
  -- the number that far reported while level 3 held it
  pub told : Option ℕ
  -- how many of near's held messages that number acknowledges, once it was heard there
  pub place : Option ℕ

abbrev pub units_in : Option UnitOut → List Unit
units_in None = []
units_in (Some out) = out.unit ∷ []

-- Both ends restart, and no earlier unit is under way.
abbrev pub ends_anew : TransceiverState → TransceiverState → Ends
ends_anew h g = record {
  near = renewed h;
  far = renewed g;
  forth = [];
  back = [];
  taken = (renewed h).sender.kept;
  delivered = [];
  told = None;
  place = None;
}

-- Messages to send are given to near, by `send` or from another link.
abbrev pub given : List Msu → Ends → Ends
given ms x = record x {
  near = record x.near { sender = record x.near.sender { kept = kept_of x.near ++ ms } };
  taken = x.taken ++ ms;
}

-- near sends a unit; below, far does
abbrev pub near_sends : Ends → Ends
near_sends x = record x {
  near = (gone x.near).transceiver;
  forth = x.forth ++ units_in (gone x.near).out;
}

abbrev pub far_sends : Ends → Ends
far_sends x = record x {
  far = (gone x.far).transceiver;
  back = x.back ++ units_in (gone x.far).out;
}

-- a unit arrives at far, and these remain under way
abbrev pub arrived : Unit → List Unit → Ends → Ends
arrived u us x = record x {
  far = (judged x.far u).transceiver;
  forth = us;
  delivered = x.delivered ++ accepted_of x.far u;
}

-- A count of the messages held becomes one of the messages that remain.
abbrev pub place_behind : ℕ → Option ℕ → Option ℕ
place_behind n None = None
place_behind n (Some p) = Some (p - n)

-- a unit arrives back at near
abbrev pub came_back : Unit → List Unit → Ends → Ends
came_back u us x =
    let h = (judged x.near u).transceiver
    in record x {
      near = h;
      back = us;
      place = place_behind (length (kept_of x.near) - length (kept_of h)) x.place;
    }

-- The states of the two ends over any list of steps. A line may lose and delay units, but keeps
-- their order. Near may do anything else that leaves its held messages: its actors may send any
-- signal except a restart, and level 3 may hold it. Far may do anything else that leaves its
-- receiver: its own messages may be given, sent and cleared. Once level 3 holds far, it does so
-- until the directions restart.
pub data Lives : Ends → Type 0 where
  begins : (h g : TransceiverState) → Lives (ends_anew h g)
  gets : (x : Ends) (ms : List Msu) → Lives x → Lives (given ms x)
  near_goes : (x : Ends) → Lives x → Lives (near_sends x)
  far_goes : (x : Ends) → Lives x → Lives (far_sends x)
  arrives :
      (x : Ends) (u : Unit) (us : List Unit)
      → Lives x → x.forth ≡ u ∷ us → Lives (arrived u us x)
  is_lost :
      (x : Ends) (u : Unit) (us : List Unit)
      → Lives x → x.forth ≡ u ∷ us → Lives (record x { forth = us })
  comes_back :
      (x : Ends) (u : Unit) (us : List Unit)
      → Lives x → x.back ≡ u ∷ us → Lives (came_back u us x)
  is_lost_back :
      (x : Ends) (u : Unit) (us : List Unit)
      → Lives x → x.back ≡ u ∷ us → Lives (record x { back = us })
  -- far begins to withhold acknowledgement, or stops
  withholds :
      (x : Ends) → Lives x → Lives (record x { far = effect (signal.Withhold true) x.far })
  acknowledges : (x : Ends) → Lives x → Lives (record x { far = record x.far { withheld = None } })
  near_else :
      (x : Ends) (h : TransceiverState)
      → Lives x → h.sender ≡ x.near.sender → h.spare ≡ x.near.spare → Lives (record x { near = h })
  far_else :
      (x : Ends) (g : TransceiverState)
      → Lives x → g.receiver ≡ x.far.receiver → g.withheld ≡ x.far.withheld
      → (is_held x.far.hold ≡ true → is_held g.hold ≡ true) → Lives (record x { far = g })
  -- far reports the number of the message that it accepted last
  tells :
      (x : Ends) → Lives x → is_held x.far.hold ≡ true
      → Lives (record x { told = Some (last_accepted x.far) })
  -- That number is heard near, at any later time.
  hears : (x : Ends) → Lives x → Lives (record x { place = count_told x.near.sender x.told })

-- What far accepted, then what is retrieved with the number that it reported while held, is what
-- near was given: none is lost, none comes twice, and the order stays. That number never
-- acknowledges more than was sent. At any earlier time, what far accepted is a beginning of what
-- near was given.
pub record EndsComplete : Type 0 where
  pub in_order : (x : Ends) → Lives x → (missing : List Msu) × (x.taken ≡ x.delivered ++ missing)
  pub whole :
      (x : Ends) (p : ℕ) → Lives x → x.place ≡ Some p
      → x.taken ≡ x.delivered ++ lacking x.near.sender (Some p)
  pub known :
      (x : Ends) (n : ℕ) → Lives x → x.told ≡ Some n
      → (p : ℕ) × (count_told x.near.sender x.told ≡ Some p)

-- ---- what a terminal does is such a step

-- whether a signal restarts the directions
abbrev pub is_beginning : EnvSignal → Bool
is_beginning signal.Fresh = true
is_beginning _ = false

-- These are such steps: any other signal of an end's actors, a report, a hold by level 3, and the
-- clearing or retrieval of far's own messages.
pub record EndsHeed : Type 0 where
  pub near_told :
      (x : Ends) (s : EnvSignal) → is_beginning s ≡ false
      → Lives x → Lives (record x { near = effect s x.near })
  pub far_told :
      (x : Ends) (s : EnvSignal) → is_beginning s ≡ false
      → Lives x → Lives (record x { far = effect s x.far })
  pub near_asked : (x : Ends) → Lives x → Lives (record x { near = (reported x.near).transceiver })
  pub far_asked : (x : Ends) → Lives x → Lives (record x { far = (reported x.far).transceiver })
  pub near_held :
      (x : Ends) (hold : Hold) → Lives x → Lives (record x { near = record x.near { hold = hold } })
  pub far_held :
      (x : Ends) (hold : Hold) → is_held hold ≡ true
      → Lives x → Lives (record x { far = record x.far { hold = hold } })
  pub far_cleared : (x : Ends) → Lives x → Lives (record x { far = clears x.far })
  pub far_emptied :
      (x : Ends) (accepted : Option ℕ) → Lives x
      → Lives (record x { far = record x.far { sender = emptied x.far.sender accepted } })
