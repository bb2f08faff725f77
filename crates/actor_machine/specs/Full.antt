-- Refusals and losses as Full, EnvFull and Stopped are exact; losses are in the order of their
-- places, without duplicates.
use Rattle.std.specs.Prelude.{◌≡◌, ℕ, ◌<◌, ◌↔◌, true, false, List, [], ◌∷◌, ◌++◌, take, Some}
use Rattle.std.specs.Prelude.{slice_get}
use Rattle.std.specs.List.{AllByRecursion}
use Rattle.turn_code.specs.Outcome.{Outcome, Meaning}
use Rattle.turn_code.specs.declared.numbers.ProcessNumber.{ProcessNumber}
use Rattle.turn_code.specs.declared.input.Place.{Place}
use Rattle.turn_code.specs.declared.input.Party.TheVariants.{Environment, Process}
use Rattle.turn_code.specs.declared.effect.Effect.{Effect}
use Rattle.turn_code.specs.declared.effect.Effect.TheVariants.{Output}
use Rattle.turn_code.specs.declared.effect.Sending.{Sending}
use Rattle.turn_code.specs.declared.draft.Draft.{Draft}
use Rattle.actor_machine.specs.Names.{number_for}
use Rattle.actor_machine.specs.declared.name.ActorName.{ActorName}
use Rattle.actor_machine.specs.Core.{Core, names_in}
use Rattle.actor_machine.specs.Effects.{is_full, has_room, laid_all, started}
use Rattle.actor_machine.specs.Receivers.{HasReceiver}
use Rattle.actor_machine.specs.Refusals.{is_offered}
use Rattle.actor_machine.specs.Step.{Says, report_of}
use Rattle.actor_machine.specs.Ledger.{Ledger, state_by, ask_by}
use Rattle.actor_machine.specs.declared.actor.Actor.{Actor}
use Rattle.actor_machine.specs.declared.actor.Standing.TheVariants.{At, Stopped}
use Rattle.actor_machine.specs.declared.event.Event.TheVariants.{Offer}
use Rattle.actor_machine.specs.declared.event.Offer.{Offer as Offered}
use Rattle.actor_machine.specs.declared.reply.Cause.{Cause}
use Rattle.actor_machine.specs.declared.reply.Cause.TheVariants as cause
use Rattle.actor_machine.specs.declared.reply.Lost.{Lost}
use Rattle.actor_machine.specs.declared.reply.Refusal.TheVariants.{Full}
use Rattle.actor_machine.specs.declared.reply.Reply.TheVariants as reply

-- actor n exists, hasn't stopped, and its port is full
pub record HasFullPort (actors : List Actor) (n : ℕ) (a : Actor) : Type 0 where
  pub there : slice_get actors n ≡ Some a
  pub place : Place
  pub standing : a.standing ≡ At place
  pub full : is_full a.port ≡ true

-- a signal is offered along a route to an actor whose port is full
pub record MeetsFull (d : Draft) (actors : List Actor) (o : Offered) : Type 0 where
  pub actor : Actor
  pub port : HasFullPort actors o.actor actor
  pub offered : is_offered d actor.name.process.0 o.signal o.values.items ≡ true

-- an output of the actor `me` goes to an actor whose port is full
pub record FindsFull (me : ActorName) (w : Core) (s : Sending) : Type 0 where
  pub process : ProcessNumber
  pub to : s.receiver.party ≡ Process process
  pub number : ℕ
  pub found : number_for (names_in w.actors) me process s.receiver.instance ≡ Some number
  pub actor : Actor
  pub port : HasFullPort w.actors number actor

-- an output of the actor `me` goes to an actor that has stopped
pub record FindsStopped (me : ActorName) (w : Core) (s : Sending) : Type 0 where
  pub process : ProcessNumber
  pub to : s.receiver.party ≡ Process process
  pub number : ℕ
  pub found : number_for (names_in w.actors) me process s.receiver.instance ≡ Some number
  pub actor : Actor
  pub there : slice_get w.actors number ≡ Some actor
  pub standing : actor.standing ≡ Stopped

abbrev pub lost_at : ℕ → Cause → Lost
lost_at place c = record { place = place; cause = c }

-- the effect at this place is among the losses, with this cause
pub record IsLost (lost : List Lost) (place : ℕ) (c : Cause) : Type 0 where
  pub before : List Lost
  pub after : List Lost
  pub is : lost ≡ before ++ lost_at place c ∷ after

-- the effect at this place is an output
pub record IsOutput (es : List Effect) (place : ℕ) : Type 0 where
  pub sending : Sending
  pub there : slice_get es place ≡ Some (Output sending)

-- each loss has the place of an output, and all later losses have greater places
abbrev pub AreInOrder : List Effect → List Lost → Type 0
AreInOrder es [] = Unit {0}
AreInOrder es (x ∷ xs) =
    IsOutput es x.place × AllByRecursion (λ (y : Lost). x.place < y.place) xs × AreInOrder es xs

-- the link just before the effect at `place` of a turn of actor n, named `me`, that ends with o
abbrev pub behind : ℕ → ActorName → Outcome → Core → ℕ → Core
behind n me o w place = laid_all n me (started n o w) (take place o.progress.effects)

-- A signal from the environment is refused as B1 Full exactly if a route brings it to an actor that
-- hasn't stopped and whose port is full, for any meaning of the turns. The report of a turn lists
-- outputs that are lost, with their places. Full: exactly those to a full port of an actor that
-- hasn't stopped. EnvFull: exactly those to a full environment. Stopped: of those that have a
-- receiver, exactly those to an actor that has stopped. It lists only outputs, in increasing order
-- of their places.
pub record FullLaw : Type 0 where
  pub offer :
      (m : Meaning) (b : Ledger) (o : Offered)
      → ((ask_by m b (Offer o)).answer ≡ Says (reply.Refused Full))
      ↔ MeetsFull b.set (state_by m b).actors o
  pub port : (w : Core) (n : ℕ) (me : ActorName) (o : Outcome) (place : ℕ) (s : Sending)
      → slice_get o.progress.effects place ≡ Some (Output s)
      → IsLost (report_of n me o w).lost.items place cause.Full
      ↔ FindsFull me (behind n me o w place) s
  pub environment :
      (w : Core) (n : ℕ) (me : ActorName) (o : Outcome) (place : ℕ) (s : Sending)
      → slice_get o.progress.effects place ≡ Some (Output s)
      → IsLost (report_of n me o w).lost.items place cause.EnvFull
      ↔ ((s.receiver.party ≡ Environment) × (has_room (behind n me o w place).ring ≡ false))
  pub stopped : (w : Core) (n : ℕ) (me : ActorName) (o : Outcome) (place : ℕ) (s : Sending)
      → slice_get o.progress.effects place ≡ Some (Output s)
      → HasReceiver (names_in w.actors) me s.receiver.party s.receiver.instance
      → IsLost (report_of n me o w).lost.items place cause.Stopped
      ↔ FindsStopped me (behind n me o w place) s
  pub order :
      (w : Core) (n : ℕ) (me : ActorName) (o : Outcome)
      → AreInOrder o.progress.effects (report_of n me o w).lost.items
