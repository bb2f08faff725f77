-- The notices to a watcher of a link during a run: turns that end, and items that are discarded.
use Rattle.std.specs.Prelude.{◌≡◌, ◌≤◌, ◌+◌, ℕ, List, [], ◌∷◌, ◌++◌, length, Option, None, Some}
use Rattle.std.specs.Prelude.{slice_get, true}
use Rattle.turn_code.specs.Fits.{Fits}
use Rattle.turn_code.specs.Outcome.{Outcome}
use Rattle.turn_code.specs.Transitions.{code_of}
use Rattle.turn_code.specs.declared.draft.Draft.{Draft}
use Rattle.turn_code.specs.declared.input.Place.{Place}
use Rattle.turn_code.specs.declared.input.Place.TheVariants.{Start, State as AtState}
use Rattle.turn_code.specs.declared.numbers.StateNumber.{StateNumber}
use Rattle.turn_machine.specs.Turn.{Turn, outcome_of}
use Rattle.input_port.specs.declared.queue.Item.{Item}
use Rattle.actor_machine.specs.Core.{Core, names_in}
use Rattle.actor_machine.specs.Looking.{item_at}
use Rattle.actor_machine.specs.Ledger.{Ledger, runs, replay, state_of, turn_at}
use Rattle.actor_machine.specs.Step.{report_of}
use Rattle.actor_machine.specs.declared.actor.Actor.{Actor}
use Rattle.actor_machine.specs.declared.actor.Standing.{Standing}
use Rattle.actor_machine.specs.declared.actor.Standing.TheVariants.{At, Stopped}
use Rattle.actor_machine.specs.declared.name.ActorName.{ActorName}
use Rattle.actor_machine.specs.declared.event.Event.{Event}
use Rattle.actor_machine.specs.declared.event.Event.TheVariants as event
use Rattle.actor_machine.specs.declared.reply.Report.{Report}
use Rattle.script_seen.specs.Told.{outcome_by, stepped}
use Rattle.script_seen.specs.Traced.{since, are_in_step, IsAt}
use Rattle.script_seen.specs.declared.turns.Ended.{Ended}
use Rattle.script_seen.specs.declared.tracing.Tracer.{Tracer}

-- a turn that ended: its tick, its actor, its transition and input, its outcome and its report
pub record TurnEnd : Type 0 where
  pub clock : ℕ
  pub me : ActorName
  pub turn : Turn
  pub outcome : Outcome
  pub report : Report

-- the value handed to a watcher is this turn
pub record IsEnd (e : Ended) (t : TurnEnd) : Type 0 where
  pub clock : e.clock ≡ t.clock
  pub me : e.me ≡ t.me
  pub turn : e.done ≡ t.turn
  pub outcome : outcome_of e.done ≡ Some t.outcome
  pub report : e.report ≡ t.report

-- the turn is a transition of a process of this set, on an input that fits it
pub record IsTurnOf (d : Draft) (process : ℕ) (t : Turn) : Type 0 where
  pub fits : Fits d process t.place t.input_number t.input
  pub code : t.code ≡ code_of fits.transition

-- an item that an actor discarded in a state
pub record Throw : Type 0 where
  pub me : ActorName
  pub state : StateNumber
  pub item : Item

pub data Notice : Type 0 where
  ends : TurnEnd → Notice
  throws : Throw → Notice

-- the turns, and the discarded items, each in their order
abbrev pub turns_in : List Notice → List TurnEnd
turns_in [] = []
turns_in (ends t ∷ ns) = t ∷ turns_in ns
turns_in (throws x ∷ ns) = turns_in ns

abbrev pub throws_in : List Notice → List Throw
throws_in [] = []
throws_in (ends t ∷ ns) = throws_in ns
throws_in (throws x ∷ ns) = x ∷ throws_in ns

abbrev pub end_noticed : Core → ℕ → Option ActorName → Option Turn → Option Outcome → List Notice
end_noticed w n (Some me) (Some t) (Some o) =
    ends (record {
      clock = w.timers.clock;
      me = me;
      turn = t;
      outcome = o;
      report = report_of n me o w;
    }) ∷ []
end_noticed w n (Some me) (Some t) None = []
end_noticed w n (Some me) None o = []
end_noticed w n None t o = []

abbrev pub finish_noticed : Core → ℕ → Option ActorName → Option Turn → List Notice
finish_noticed w n me t = end_noticed w n me t (outcome_by t)

-- an actor discards an item in a state
abbrev pub thrown_by : ActorName → StateNumber → Item → Notice
thrown_by me q x = throws (record { me = me; state = q; item = x })

abbrev pub throw_noticed : ActorName → Standing → Option Item → List Notice
throw_noticed me (At Start) x = []
throw_noticed me (At (AtState q)) None = []
throw_noticed me (At (AtState q)) (Some x) = thrown_by me q x ∷ []
throw_noticed me Stopped x = []

abbrev pub skip_noticed : Draft → Option Actor → List Notice
skip_noticed d None = []
skip_noticed d (Some a) =
    throw_noticed a.name a.standing
    (item_at d a.name.process.0 a.standing a.port.items)

-- the notices about an event in a state of a link
unfoldable pub noticed : Draft → Core → Event → List Notice
noticed d w (event.Offer o) = []
noticed d w (event.Begin n) = []
noticed d w (event.Skip n) = skip_noticed d (slice_get w.actors n)
noticed d w (event.Finish n) =
    finish_noticed w n (slice_get (names_in w.actors) n) (turn_at d n (slice_get w.actors n))
noticed d w (event.Advance k) = []
noticed d w event.TakeEnv = []

-- the notices about events that happen one after another
unfoldable pub noticed_in : Draft → Core → List Event → List Notice
noticed_in d w [] = []
noticed_in d w (e ∷ es) = noticed d w e ++ noticed_in d (stepped d w e).to es

-- The notices of commands in order, from a first state of a link. B relates commands to the book
-- after them; the results are the number of events and the state.
pub data Notices {S : Type 0} (d : Draft) (first : Core) (B : List S → Ledger → Type 0) :
    List S → ℕ → Core → List Notice → Type 0 where
  begins : Notices d first B [] 0 first []
  more : {commands : List S} {place : ℕ} {w : Core} {ns : List Notice} (said : S) (b : Ledger)
      → Notices d first B commands place w ns
      → B (commands ++ said ∷ []) b → b.first ≤ place
      → are_in_step (replay d (runs d) w (since place b)) (state_of b) ≡ true
      → Notices d first B (commands ++ said ∷ []) (place + length (since place b))
      (replay d (runs d) w (since place b)) (ns ++ noticed_in d w (since place b))

-- all commands were obeyed, and the watcher got all notices: P holds of it then
pub record IsWatched {S : Type 0} (d : Draft) (first : Core) (B : List S → Ledger → Type 0)
    (commands : List S) (P : List Notice → Type 0) : Type 0 where
  pub place : ℕ
  pub now : Core
  pub notices : List Notice
  pub are : Notices d first B commands place now notices
  pub holds : P notices

-- these commands were obeyed so far, and P holds of the watcher that got their notices; the tracer
-- is where their book is
pub record IsWatching {S : Type 0} (d : Draft) (first : Core) (B : List S → Ledger → Type 0)
    (commands : List S) (P : List Notice → Type 0) (t : Tracer) : Type 0 where
  pub place : ℕ
  pub now : Core
  pub notices : List Notice
  pub are : Notices d first B commands place now notices
  pub is_at : IsAt d place now t
  pub holds : P notices

-- the commands before one of these were obeyed and watched, and that one is an expectation that
-- fails after them, as M states
pub record IsWatchedInPart {S : Type 0} (d : Draft) (first : Core)
    (B : List S → Ledger → Type 0) (M : List S → S → Type 0) (commands : List S)
    (P : List Notice → Type 0) : Type 0 where
  pub before : List S
  pub said : S
  pub after : List S
  pub stands : commands ≡ before ++ said ∷ after
  pub missed : M before said
  pub watched : IsWatched d first B before P
