-- An invariant of every state of a link. Each signal that waits came along a route from the
-- environment or an actor of the set, with parameters of its sorts. Each timer belongs to its
-- receiver. Both fit in any state of the receiver. Each turn that is out has an input that fits it.
use Rattle.std.specs.Prelude.{◌≡◌, ◌⊎◌, ℕ, ◌<◌, List, length, map, Any, Option, None, Some, IfSome}
use Rattle.std.specs.Prelude.{slice_get}
use Rattle.std.specs.List.{AllByRecursion}
use Rattle.std.specs.FinMap as finite
use Rattle.turn_code.specs.Run.{of_party}
use Rattle.turn_code.specs.Values.{sort_of}
use Rattle.turn_code.specs.Routes.{Brings, Reaches}
use Rattle.turn_code.specs.Fits.{HaveSorts, AreSet, Fits}
use Rattle.turn_code.specs.Start.{initial_values}
use Rattle.turn_code.specs.Transitions.{parameters_of}
use Rattle.turn_code.specs.declared.value.Value.{Value}
use Rattle.turn_code.specs.declared.input.Address.{Address}
use Rattle.turn_code.specs.declared.input.Party.TheVariants.{Environment}
use Rattle.turn_code.specs.declared.input.Place.TheVariants.{Start, State}
use Rattle.turn_code.specs.declared.draft.Draft.{Draft}
use Rattle.turn_code.specs.declared.draft.DraftProcess.{DraftProcess}
use Rattle.turn_code.specs.declared.draft.DraftState.{DraftState}
use Rattle.input_port.specs.declared.queue.Arrival.{Arrival}
use Rattle.input_port.specs.declared.queue.Item.{Item}
use Rattle.input_port.specs.declared.queue.Item.TheVariants.{Signal, Timer}
use Rattle.actor_machine.specs.Names.{actors_of, address_of}
use Rattle.actor_machine.specs.declared.name.ActorName.{ActorName}
use Rattle.tick_wheel.specs.TimerId.{TimerId}
use Rattle.tick_wheel.specs.Timers.{Deadlines}
use Rattle.actor_machine.specs.Core.{Core, names_in}
use Rattle.actor_machine.specs.declared.actor.Actor.{Actor}
use Rattle.actor_machine.specs.declared.actor.Given.{Given}
use Rattle.actor_machine.specs.declared.actor.Standing.{Standing}
use Rattle.actor_machine.specs.declared.actor.Standing.TheVariants.{At, Stopped}
use Rattle.actor_machine.specs.declared.reply.Emitted.{Emitted}

-- actor n of the set has this name
abbrev pub IsCalled : Draft → ℕ → ActorName → Type 0
IsCalled d n me = slice_get (actors_of d.processes) n ≡ Some me

-- the address of an actor of the set
pub record IsActor (d : Draft) (x : Address) : Type 0 where
  pub number : ℕ
  pub name : ActorName
  pub called : IsCalled d number name
  pub is : x ≡ address_of name

-- the environment, or an actor of the set
abbrev pub IsSender : Draft → Address → Type 0
IsSender d x = (x ≡ of_party Environment) ⊎ IsActor d x

-- the signal is one of the set, its parameters have its sorts, the environment or an actor of the
-- set sent it, and a route brought it from there to process n
pub record Arrived (d : Draft) (n : ℕ) (a : Arrival) : Type 0 where
  pub there : a.signal.0 < length d.signals
  pub sorts : map sort_of a.parameters.items ≡ parameters_of (slice_get d.signals a.signal.0)
  pub sender : IsSender d a.sender
  pub brought : Any (Brings a.sender.party n a.signal) d.routes

-- a signal that arrived along a route, or the signal of a timer of the process
abbrev pub ItemFits : Draft → ℕ → DraftProcess → Item → Type 0
ItemFits d n p (Signal a) = Arrived d n a
ItemFits d n p (Timer t) = t.0 < length p.timers

-- the state is declared, and the variables that it calls set have values
pub record IsReadyAt (p : DraftProcess) (q : ℕ) (vs : List (Option Value)) : Type 0 where
  pub state : DraftState
  pub there : slice_get p.states q ≡ Some state
  pub set : AreSet state.set vs

abbrev pub StandingFits : DraftProcess → Standing → List (Option Value) → Type 0
StandingFits p (At Start) vs = vs ≡ initial_values p.variables
StandingFits p (At (State q)) vs = IsReadyAt p q.0 vs
StandingFits p Stopped vs = Unit {0}

-- an actor with a turn out hasn't stopped, and the turn's input fits the transition
abbrev pub GivenFits : Draft → ℕ → Standing → Option Given → Type 0
GivenFits d n (At s) None = Unit {0}
GivenFits d n (At s) (Some g) = Fits d n s g.number g.input
GivenFits d n Stopped None = Unit {0}
GivenFits d n Stopped (Some g) = ⊥

-- the sender of the signal that the turn was given is the environment or an actor of the set
abbrev pub GivenBy : Draft → Option Given → Type 0
GivenBy d None = Unit {0}
GivenBy d (Some g) = IfSome g.input.sender (IsSender d)

-- an actor of a process of the set
pub record ActorFits (d : Draft) (a : Actor) : Type 0 where
  pub process : DraftProcess
  pub there : slice_get d.processes a.name.process.0 ≡ Some process
  pub variables : HaveSorts process.variables a.variables.items
  pub standing : StandingFits process a.standing a.variables.items
  pub items : AllByRecursion (ItemFits d a.name.process.0 process) a.port.items
  pub given : GivenFits d a.name.process.0 a.standing a.given
  pub sender : GivenBy d a.given

-- the timer belongs to its actor's process
pub record TimerFits (d : Draft) (t : TimerId) : Type 0 where
  pub name : ActorName
  pub actor : IsCalled d t.actor name
  pub process : DraftProcess
  pub there : slice_get d.processes name.process.0 ≡ Some process
  pub number : t.number < length process.timers

abbrev pub TimersFit : Draft → Deadlines → Type 0
TimersFit d deadlines =
    (t : TimerId) (until : ℕ) → finite.get deadlines t ≡ Some until → TimerFits d t

-- an actor of the set sent it, the signal is one of the set, its parameters have its sorts, and a
-- route carries it to the environment
pub record EmittedFits (d : Draft) (x : Emitted) : Type 0 where
  pub number : ℕ
  pub sender : IsCalled d number x.sender
  pub there : x.signal.0 < length d.signals
  pub sorts : map sort_of x.parameters.items ≡ parameters_of (slice_get d.signals x.signal.0)
  pub reaches : Reaches d.routes x.sender.process.0 Environment x.signal

-- the whole link fits: its actors are those of the set
pub record CoreFits (d : Draft) (w : Core) : Type 0 where
  pub each : (n : ℕ) (a : Actor) → slice_get w.actors n ≡ Some a → ActorFits d a
  pub names : names_in w.actors ≡ actors_of d.processes
  pub timers : TimersFit d w.timers.deadlines
  pub ring : AllByRecursion (EmittedFits d) w.ring.items
