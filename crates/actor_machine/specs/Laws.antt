-- Laws that follow from the machine for every book and every list of events.
use Rattle.std.specs.Prelude.{◌≡◌, ◌≢◌, ℕ, ◌+◌, ◌<◌, ◌≤◌, ◌↔◌, List, [], ◌∷◌, None, Some, slice_get}
use Rattle.plain_laws.specs.Limits.{MOST_JOURNAL, PAST_PLACES}
use Rattle.turn_code.specs.Outcome.{Outcome, Meaning, Means}
use Rattle.turn_code.specs.Transitions.{Transition, transition_at}
use Rattle.turn_code.specs.Valid.{IsValid}
use Rattle.turn_code.specs.Fits.{HaveSorts, FitsTransition, Fits}
use Rattle.turn_code.specs.declared.numbers.StateNumber.{StateNumber}
use Rattle.turn_code.specs.declared.input.Place.TheVariants.{State}
use Rattle.turn_code.specs.declared.draft.Draft.{Draft}
use Rattle.turn_code.specs.declared.draft.DraftProcess.{DraftProcess}
use Rattle.turn_machine.specs.Turn.{Turn, outcome_of}
use Rattle.input_port.specs.declared.queue.Item.{Item}
use Rattle.actor_machine.specs.declared.name.ActorName.{ActorName}
use Rattle.actor_machine.specs.Core.{Core, names_in}
use Rattle.actor_machine.specs.Looking.{trigger_of, input_for, input_with}
use Rattle.actor_machine.specs.Fits.{ItemFits, IsReadyAt, CoreFits}
use Rattle.actor_machine.specs.Receivers.{AreReceived}
use Rattle.actor_machine.specs.Step.{Answer, Stuck, Says, step, report_of}
use Rattle.actor_machine.specs.Ledger.{Ledger, runs, state_by, state_of, next, event_at, refusal_by}
use Rattle.actor_machine.specs.Ledger.{ask, rebased, answers_by, after_by, turn_out}
use Rattle.actor_machine.specs.Kept.{HasOut, AreSilent, IsKept, opened_book}
use Rattle.actor_machine.specs.declared.actor.Actor.{Actor}
use Rattle.actor_machine.specs.declared.actor.Given.{Given}
use Rattle.actor_machine.specs.declared.event.Event.{Event}
use Rattle.actor_machine.specs.declared.event.Event.TheVariants.{Offer, Begin, Skip, Finish}
use Rattle.actor_machine.specs.declared.event.Event.TheVariants.{Advance, TakeEnv}
use Rattle.actor_machine.specs.declared.reply.Refusal.TheVariants.{Stranger}
use Rattle.actor_machine.specs.declared.reply.Reply.TheVariants as reply

-- an opened book has the invariant, and an event, a list of events and a rebase keep it
pub record KeepsLaw : Type 0 where
  pub asks : (b : Ledger) (e : Event) → IsKept b → IsKept (ask b e).book
  pub lists : (b : Ledger) (es : List Event) → IsKept b → IsKept (after_by (runs b.set) b es)
  pub rebases : (b : Ledger) → IsKept b → IsKept (rebased b)
  pub opens :
      (d : Draft) (port env journal : ℕ) → IsValid d → journal ≤ MOST_JOURNAL
      → IsKept (opened_book d port env journal)

-- no event and no rebase changes the set of processes or the limit of the journal
pub record SetLaw : Type 0 where
  pub asks : (b : Ledger) (e : Event) → (ask b e).book.set ≡ b.set
  pub lists : (b : Ledger) (es : List Event) → (after_by (runs b.set) b es).set ≡ b.set
  pub rebases : (b : Ledger) → (rebased b).set ≡ b.set
  pub limits : (b : Ledger) (es : List Event) → (after_by (runs b.set) b es).limit ≡ b.limit

-- the state after an accepted event is the machine's next one
abbrev pub StateLaw : Type 0
StateLaw = (b : Ledger) (e : Event) → refusal_by (runs b.set) b e ≡ None
    → state_of (ask b e).book ≡ (step b.set (runs b.set) (state_of b) e).to

abbrev pub FitsLaw : Type 0
FitsLaw = (b : Ledger) → IsKept b → CoreFits b.set (state_of b)

-- no timer that has a deadline has a signal in the port, in any state of a book
abbrev pub TimerLaw : Type 0
TimerLaw = (b : Ledger) → IsKept b → AreSilent (state_of b)

-- a list of events has the same answers and leaves the same book in the same state, by the code of
-- the set and by any meaning of the set
pub record SameByText (act : Meaning) (b : Ledger) (es : List Event) : Type 0 where
  pub answers : answers_by act b es ≡ answers_by (runs b.set) b es
  pub book : after_by act b es ≡ after_by (runs b.set) b es
  pub state : state_by act (after_by act b es) ≡ state_of (after_by (runs b.set) b es)

abbrev pub TextLaw : Type 0
TextLaw = (act : Meaning) (b : Ledger) (es : List Event) → IsKept b → Means act b.set
    → SameByText act b es

-- a turn that is out ends by the run of its own code on its own input, within its certificate's
-- budget; the answer reports the end, and each of its outputs has a receiver
pub record FinishesWithin (b : Ledger) (n : ℕ) (t : Turn) : Type 0 where
  pub outcome : Outcome
  pub ran : outcome_of t ≡ Some outcome
  pub name : ActorName
  pub called : slice_get (names_in (state_of b).actors) n ≡ Some name
  pub answer :
      (ask b (Finish n)).answer ≡ Says (reply.Finished (report_of n name outcome (state_of b)))
  pub within : outcome.progress.count ≤ t.certificate.budget
  pub received : AreReceived (names_in (state_of b).actors) name outcome.progress.effects

abbrev pub FinishLaw : Type 0
FinishLaw =
    (b : Ledger) (n : ℕ) (t : Turn) → IsKept b → turn_out b n ≡ Some t → FinishesWithin b n t

-- this holds if the event is the end of a turn
abbrev pub WithinAt : Ledger → Event → Type 0
WithinAt b (Offer o) = Unit {0}
WithinAt b (Begin n) = Unit {0}
WithinAt b (Skip n) = Unit {0}
WithinAt b (Finish n) = (t : Turn) → turn_out b n ≡ Some t → FinishesWithin b n t
WithinAt b (Advance k) = Unit {0}
WithinAt b TakeEnv = Unit {0}

-- this holds along a list of events
abbrev pub AllWithin : Ledger → List Event → Type 0
AllWithin b [] = Unit {0}
AllWithin b (e ∷ es) = WithinAt b e × AllWithin (ask b e).book es

abbrev pub WithinLaw : Type 0
WithinLaw = (b : Ledger) (es : List Event) → IsKept b → AllWithin b es

-- a finish is refused exactly if the actor has no turn out, and always by the same name
pub record OutLaw : Type 0 where
  pub stranger :
      (b : Ledger) (n : ℕ) → IsKept b
      → (turn_out b n ≡ None) ↔ (refusal_by (runs b.set) b (Finish n) ≡ Some Stranger)
  pub own : (b : Ledger) (n : ℕ) (t : Turn) → IsKept b → turn_out b n ≡ Some t
      → refusal_by (runs b.set) b (Finish n) ≡ None

-- the turn with this number has begun, and no actor has it out
pub record IsOver (w : Core) (turn : ℕ) : Type 0 where
  pub began : turn < w.turns
  pub nowhere : (n : ℕ) (g : Given) → HasOut w.actors n g → g.turn ≢ turn

-- a turn that has ended is over, and stays so: no actor ever has a turn with its number out again
pub record OverLaw : Type 0 where
  pub ends : (b : Ledger) (n : ℕ) (t : Turn) → IsKept b → turn_out b n ≡ Some t
      → IsOver (state_of (ask b (Finish n)).book) t.turn
  pub asks : (b : Ledger) (e : Event) (turn : ℕ) → IsOver (state_of b) turn
      → IsOver (state_of (ask b e).book) turn
  pub lists :
      (b : Ledger) (es : List Event) (turn : ℕ) → IsOver (state_of b) turn
      → IsOver (state_of (after_by (runs b.set) b es)) turn
  pub rebases :
      (b : Ledger) (turn : ℕ) → IsOver (state_of b) turn → IsOver (state_of (rebased b)) turn
  pub none : (b : Ledger) (n : ℕ) (t : Turn) → IsOver (state_of b) t.turn → turn_out b n ≢ Some t

-- an item that may wait for a process fits each input that waits for it, in each of its states,
-- with any variables that fit the state; the first such input too
pub record ItemLaw : Type 0 where
  pub each : (d : Draft) (n : ℕ) (p : DraftProcess) (a : Actor) (x : Item) (q : StateNumber) (i : ℕ)
      (t : Transition)
      → slice_get d.processes n ≡ Some p → HaveSorts p.variables a.variables.items
      → ItemFits d n p x → IsReadyAt p q.0 a.variables.items
      → transition_at d n (State q) i ≡ Some t → t.trigger ≡ Some (trigger_of x)
      → FitsTransition d t (input_with a (Some x))
  pub first :
      (d : Draft) (n : ℕ) (p : DraftProcess) (a : Actor) (x : Item) (q : StateNumber) (i : ℕ)
      → slice_get d.processes n ≡ Some p → HaveSorts p.variables a.variables.items
      → ItemFits d n p x → IsReadyAt p q.0 a.variables.items
      → input_for d n q.0 x ≡ Some i → Fits d n (State q) i (input_with a (Some x))

-- an accepted event gets the next place and stays there as others follow; a rebase removes all
-- events and leaves the next place unchanged
pub record PlaceLaw : Type 0 where
  pub accepted :
      (b : Ledger) (e : Event) → refusal_by (runs b.set) b e ≡ None
      → event_at (ask b e).book (next b) ≡ Some e
  pub follows :
      (b : Ledger) (e : Event) → refusal_by (runs b.set) b e ≡ None
      → next (ask b e).book ≡ next b + 1
  pub stays :
      (b : Ledger) (es : List Event) (place : ℕ) (e : Event) → event_at b place ≡ Some e
      → event_at (after_by (runs b.set) b es) place ≡ Some e
  pub emptied : (b : Ledger) (place : ℕ) → event_at (rebased b) place ≡ None
  pub onward : (b : Ledger) → next (rebased b) ≡ next b
  pub below : (b : Ledger) → IsKept b → next b < PAST_PLACES

abbrev pub IsSaid : Answer → Type 0
IsSaid (Stuck x) = ⊥
IsSaid (Says r) = Unit {0}

-- no turn ever gets stuck
abbrev pub NeverStuckLaw : Type 0
NeverStuckLaw = (b : Ledger) (e : Event) → IsKept b → IsSaid (ask b e).answer
