-- The history of a link: a base state, and the events since then. Replaying the events from the
-- base yields the present state.
use Rattle.std.specs.Prelude.{ℕ, ◌+◌, ◌-◌, List, [], ◌∷◌, ◌++◌, length, Option, None, Some, Result}
use Rattle.std.specs.Prelude.{Err, slice_get, nat_lt, nat_le, if◌then◌else◌}
use Rattle.plain_laws.specs.Limits.{LAST_PLACE}
use Rattle.turn_code.specs.Outcome.{Outcome, Meaning, result_in}
use Rattle.turn_code.specs.Run.{run}
use Rattle.turn_code.specs.Transitions.{Transition, transition_at}
use Rattle.turn_code.specs.declared.input.Place.{Place}
use Rattle.turn_code.specs.declared.input.Input.{Input}
use Rattle.turn_code.specs.declared.numbers.ProcessNumber.{ProcessNumber}
use Rattle.turn_code.specs.declared.trouble.Trouble.{Trouble}
use Rattle.turn_code.specs.declared.trouble.Trouble.TheVariants.{Outside}
use Rattle.turn_code.specs.declared.draft.Draft.{Draft}
use Rattle.turn_machine.specs.Turn.{Turn, turn_of}
use Rattle.actor_machine.specs.Core.{Core, outs}
use Rattle.actor_machine.specs.Refusals.{refuses_in}
use Rattle.actor_machine.specs.Step.{Answer, Says, Stepped, step}
use Rattle.actor_machine.specs.declared.actor.Actor.{Actor}
use Rattle.actor_machine.specs.declared.actor.Given.{Given}
use Rattle.actor_machine.specs.declared.actor.Standing.{Standing}
use Rattle.actor_machine.specs.declared.actor.Standing.TheVariants.{At, Stopped}
use Rattle.actor_machine.specs.declared.event.Event.{Event}
use Rattle.actor_machine.specs.declared.reply.Refusal.{Refusal}
use Rattle.actor_machine.specs.declared.reply.Reply.TheVariants as reply

-- the set of processes, the state where the journal begins, the place of its first event, its
-- events in order, and its limit
pub record Ledger : Type 0 where
  pub set : Draft
  pub base : Core
  pub first : ℕ
  pub journal : List Event
  pub limit : ℕ

-- ---- the meaning of turns by the code of a set

-- without such a transition the trouble is `Outside`
abbrev pub run_of : Option Transition → Input → Result Outcome Trouble
run_of None x = Err Outside
run_of (Some t) x = result_in (run t.piece.code x)

-- the run of the set's own code
unfoldable pub runs : Draft → Meaning
runs d p s i x = run_of (transition_at d p s i) x

-- ---- the state

abbrev pub replay : Draft → Meaning → Core → List Event → Core
replay d m w [] = w
replay d m w (e ∷ es) = replay d m (step d m w e).to es

-- the state of a link, by a meaning of turns
abbrev pub state_by : Meaning → Ledger → Core
state_by m b = replay b.set m b.base b.journal

-- the state of a link
abbrev pub state_of : Ledger → Core
state_of b = state_by (runs b.set) b

-- ---- the journal

-- the place of the next event
abbrev pub next : Ledger → ℕ
next b = b.first + length b.journal

-- the event at a place; none before the first place and from the next place on
abbrev pub event_at : Ledger → ℕ → Option Event
event_at b place = if nat_lt place b.first then None else slice_get b.journal (place - b.first)

-- the number of free places: each turn that is out keeps one, and none is free after the last place
unfoldable pub room : Ledger → Core → ℕ
room b w = if nat_le LAST_PLACE (next b) then 0 else b.limit - (length b.journal + outs w.actors)

abbrev pub refusal_by : Meaning → Ledger → Event → Option Refusal
refusal_by m b e = refuses_in b.set (state_by m b) (room b (state_by m b)) e

-- the book after an event, and the answer
pub record Asked : Type 0 where
  pub book : Ledger
  pub answer : Answer

abbrev pub asked : Ledger → Event → Stepped → Option Refusal → Asked
asked b e s None = record { book = record b { journal = b.journal ++ e ∷ [] }; answer = s.answer }
asked b e s (Some r) = record { book = b; answer = Says (reply.Refused r) }

-- an accepted event goes into the journal, a refused one changes nothing
unfoldable pub ask_by : Meaning → Ledger → Event → Asked
ask_by m b e = asked b e (step b.set m (state_by m b) e) (refusal_by m b e)

-- as `ask_by`, with the set's own code
abbrev pub ask : Ledger → Event → Asked
ask b e = ask_by (runs b.set) b e

-- the present state becomes the base, and the journal is empty
unfoldable pub rebased : Ledger → Ledger
rebased b = record b { base = state_of b; first = next b; journal = [] }

-- ---- lists of events

abbrev pub answers_by : Meaning → Ledger → List Event → List Answer
answers_by m b [] = []
answers_by m b (e ∷ es) = (ask_by m b e).answer ∷ answers_by m (ask_by m b e).book es

abbrev pub after_by : Meaning → Ledger → List Event → Ledger
after_by m b [] = b
after_by m b (e ∷ es) = after_by m (ask_by m b e).book es

-- ---- the turn that an actor has out

-- the turn of actor n, which is an instance of process p
abbrev pub turn_with : ℕ → ProcessNumber → Place → Given → Option Transition → Option Turn
turn_with n p s g None = None
turn_with n p s g (Some t) =
    Some (turn_of n g.turn p s g.number t.piece.code t.piece.certificate g.input)

abbrev pub turn_given : Draft → ℕ → ProcessNumber → Standing → Option Given → Option Turn
turn_given d n p (At s) (Some g) = turn_with n p s g (transition_at d p.0 s g.number)
turn_given d n p (At s) None = None
turn_given d n p Stopped g = None

abbrev pub turn_at : Draft → ℕ → Option Actor → Option Turn
turn_at d n None = None
turn_at d n (Some a) = turn_given d n a.name.process a.standing a.given

-- the job of an actor that has a turn out
unfoldable pub turn_out : Ledger → ℕ → Option Turn
turn_out b n = turn_at b.set n (slice_get (state_of b).actors n)
