-- The trace of a script's run: each command's line, followed by the lines about the events that the
-- command caused.
use Rattle.std.specs.Prelude.{◌≡◌, ◌≤◌, ◌+◌, ◌-◌, ℕ, Bool, true, false, List, [], ◌∷◌, ◌++◌, ◌==◌}
use Rattle.std.specs.Prelude.{◌&&◌, length, drop, Option}
use Rattle.std.specs.List.{flat_map}
use Rattle.std.specs.Io.KnownBytes.{Appends}
use Rattle.turn_code.specs.declared.draft.Draft.{Draft}
use Rattle.tick_wheel.specs.Timers.{Timers}
use Rattle.tick_wheel.specs.Turning.{timers_of}
use Rattle.actor_machine.specs.Core.{Core}
use Rattle.actor_machine.specs.Ledger.{Ledger, runs, replay, next, state_of}
use Rattle.actor_machine.specs.declared.event.Event.{Event}
use Rattle.script_lines.specs.Lines.{PlainLine}
use Rattle.plain_text.specs.Lines.{line_of}
use Rattle.script_seen.specs.Shown.{IsLine}
use Rattle.script_seen.specs.Told.{told_of}
use Rattle.script_seen.specs.declared.tracing.Tracer.{Tracer}

-- the events of a journal from this event number on
abbrev pub since : ℕ → Ledger → List Event
since place b = drop (place - b.first) b.journal

-- the trace of events, with line ends
abbrev pub told_text : Bool → Draft → Core → List Event → List ℕ
told_text every d w es = flat_map line_of (told_of every d w es)

-- the line of a command, written first; nothing for a command that is a question
abbrev pub IsFront : Bool → List PlainLine → ℕ → List ℕ → Type 0
IsFront true lines number front = front ≡ []
IsFront false lines number front = IsLine lines number front

-- two states agree in their ticks, turns begun, turns ended and instructions executed
abbrev pub are_in_step : Core → Core → Bool
are_in_step w v =
    (w.timers.clock == v.timers.clock)
    && ((w.turns == v.turns)
    && ((w.finishes == v.finishes) && (w.instructions == v.instructions)))

-- The trace of commands in order, from a first state of a link. B relates commands to the book
-- after them; the results are the number of events and the state. Each command's line comes before
-- its events, none of which the journal has lost; then the state is in step with the book's.
pub data Traces {S : Type 0} (every : Bool) (lines : List PlainLine) (line : S → ℕ)
    (asks : S → Bool) (d : Draft) (first : Core) (B : List S → Ledger → Type 0) :
    List S → ℕ → Core → List ℕ → Type 0 where
  begins : Traces every lines line asks d first B [] 0 first []
  more : {commands : List S} {place : ℕ} {w : Core} {text : List ℕ} (said : S) (front : List ℕ)
      (b : Ledger)
      → Traces every lines line asks d first B commands place w text
      → IsFront (asks said) lines (line said) front
      → B (commands ++ said ∷ []) b → b.first ≤ place
      → are_in_step (replay d (runs d) w (since place b)) (state_of b) ≡ true
      → Traces every lines line asks d first B (commands ++ said ∷ [])
      (place + length (since place b)) (replay d (runs d) w (since place b))
      (text ++ (front ++ told_text every d w (since place b)))

-- a tracer has reached this number of events of a link, and this state
pub record IsAt (d : Draft) (place : ℕ) (w : Core) (t : Tracer) : Type 0 where
  pub set : t.again.set ≡ d
  pub place_is : next t.again ≡ place
  pub state : state_of t.again ≡ w
  pub timers : timers_of t.wheel ≡ w.timers

-- these commands are traced so far, and their trace was written
pub record IsTracing {S : Type 0} (lines : List PlainLine) (line : S → ℕ) (asks : S → Bool)
    (d : Draft) (first : Core) (B : List S → Ledger → Type 0) (commands : List S)
    (old new : Option (List ℕ)) (t : Tracer) : Type 0 where
  pub place : ℕ
  pub now : Core
  pub text : List ℕ
  pub traces : Traces t.every lines line asks d first B commands place now text
  pub is_at : IsAt d place now t
  pub written : Appends old new text

-- all commands are traced
pub record IsTraced {S : Type 0} (every : Bool) (lines : List PlainLine) (line : S → ℕ)
    (asks : S → Bool) (d : Draft) (first : Core) (B : List S → Ledger → Type 0)
    (commands : List S) (old new : Option (List ℕ)) : Type 0 where
  pub place : ℕ
  pub now : Core
  pub text : List ℕ
  pub traces : Traces every lines line asks d first B commands place now text
  pub written : Appends old new text

-- the commands before one of these are traced, and that one is an expectation that fails after
-- them, as M states
pub record IsTracedInPart {S : Type 0} (every : Bool) (lines : List PlainLine) (line : S → ℕ)
    (asks : S → Bool) (d : Draft) (first : Core) (B : List S → Ledger → Type 0)
    (M : List S → S → Type 0) (commands : List S) (old new : Option (List ℕ)) : Type 0 where
  pub before : List S
  pub said : S
  pub after : List S
  pub stands : commands ≡ before ++ said ∷ after
  pub missed : M before said
  pub traced : IsTraced every lines line asks d first B before old new
