-- What the reply to one event says, by the text.
use Rattle.std.specs.Prelude.{◌≡◌, ◌↔◌, ℕ, ◌≤◌, false, List, Some, Ok, slice_get}
use Rattle.sdl_ast.specs.Plain.{PlainBlock}
use Rattle.turn_code.specs.Outcome.{Outcome}
use Rattle.turn_code.specs.declared.effect.Effect.TheVariants.{Output}
use Rattle.turn_code.specs.declared.effect.Sending.{Sending}
use Rattle.turn_code.specs.declared.input.Party.TheVariants.{Environment}
use Rattle.turn_verify.specs.Meant.{IsCertifiedBy, meaning_of}
use Rattle.actor_book.specs.Schedules.{Used, IsToldOfRoom}
use Rattle.actor_book.specs.Turn.{Turn}
use Rattle.actor_machine.specs.Core.{Core}
use Rattle.actor_machine.specs.Effects.{has_room}
use Rattle.actor_machine.specs.Fits.{IsCalled}
use Rattle.actor_machine.specs.Full.{MeetsFull, FindsFull, FindsStopped, IsLost, AreInOrder, behind}
use Rattle.actor_machine.specs.Names.{actors_of}
use Rattle.actor_machine.specs.Receivers.{AreReceived}
use Rattle.actor_machine.specs.Step.{report_of}
use Rattle.actor_machine.specs.Ledger.{Ledger, state_of, turn_out}
use Rattle.actor_machine.specs.declared.name.ActorName.{ActorName}
use Rattle.actor_machine.specs.declared.event.Event.{Event}
use Rattle.actor_machine.specs.declared.event.Event.TheVariants.{Offer, Begin, Skip, Finish}
use Rattle.actor_machine.specs.declared.event.Event.TheVariants.{Advance, TakeEnv}
use Rattle.actor_machine.specs.declared.reply.Cause.TheVariants as cause
use Rattle.actor_machine.specs.declared.reply.Lost.{Lost}
use Rattle.actor_machine.specs.declared.reply.Refusal.TheVariants.{Full}
use Rattle.actor_machine.specs.declared.reply.Reply.{Reply}
use Rattle.actor_machine.specs.declared.reply.Reply.TheVariants as reply
use Rattle.link_whole.specs.InputAndSave.{AnswersBegin, AnswersSkip}

-- ---- full ports

-- The event is an offer of a signal that a route brings to an actor that hasn't stopped, and whose
-- port holds as many signals as its capacity allows at this moment. No other event is so.
abbrev pub IsForFullPort : Ledger → Event → Type 0
IsForFullPort k (Offer o) = MeetsFull k.set (state_of k).actors o
IsForFullPort k (Begin n) = ⊥
IsForFullPort k (Skip n) = ⊥
IsForFullPort k (Finish n) = ⊥
IsForFullPort k (Advance ticks) = ⊥
IsForFullPort k TakeEnv = ⊥

-- ---- ends of turns

-- Actor n, named `me`, ends a turn with this outcome in state w: which of its outputs are lost.
-- Each loss has the output's place among the effects. Full: exactly the outputs to a full port of
-- an actor that hasn't stopped, just before that output. EnvFull: exactly those to a full
-- environment. Stopped: exactly those to an actor that has stopped. There are no others, and their
-- places rise.
pub record AreLost (w : Core) (n : ℕ) (me : ActorName) (o : Outcome) (lost : List Lost) :
    Type 0 where
  pub port : (place : ℕ) (s : Sending) → slice_get o.progress.effects place ≡ Some (Output s)
      → IsLost lost place cause.Full ↔ FindsFull me (behind n me o w place) s
  pub environment :
      (place : ℕ) (s : Sending)
      → slice_get o.progress.effects place ≡ Some (Output s)
      → IsLost lost place cause.EnvFull
      ↔ ((s.receiver.party ≡ Environment) × (has_room (behind n me o w place).ring ≡ false))
  pub stopped : (place : ℕ) (s : Sending) → slice_get o.progress.effects place ≡ Some (Output s)
      → IsLost lost place cause.Stopped ↔ FindsStopped me (behind n me o w place) s
  pub order : AreInOrder o.progress.effects lost

-- The turn that an actor has out ends. On the turn's input, the text's transition of the actor's
-- process has that end, with these variables, effects and count. So the turn is in no trouble: it
-- reads no unset variable, has no wrong or missing operand, lacks no answer, next state or
-- receiver, and doesn't leave its text. Each output goes to the environment, or `number_for` finds
-- an actor of the receiving process. The reply reports that end, that count, and exactly the
-- outputs that are lost. The count is within the certificate's budget, which is the longest path of
-- the transition.
pub record EndsAsMeant (b : PlainBlock) (k : Ledger) (n : ℕ) (t : Turn) (r : Reply) :
    Type 0 where
  pub outcome : Outcome
  pub name : ActorName
  pub called : IsCalled k.set n name
  pub meant : meaning_of b name.process.0 t.place t.input_number t.input ≡ Ok outcome
  pub received : AreReceived (actors_of k.set.processes) name outcome.progress.effects
  pub answer : r ≡ reply.Finished (report_of n name outcome (state_of k))
  pub lost : AreLost (state_of k) n name outcome (report_of n name outcome (state_of k)).lost.items
  pub within : outcome.progress.count ≤ t.certificate.budget
  pub longest : IsCertifiedBy b name.process.0 t.place t.input_number t.certificate

-- ---- all events

-- An actor begins a turn with the item that the text's INPUTs and SAVEs say, discards the one that
-- they say, and ends the turn that it has out as the text means. For events of other kinds the text
-- says nothing.
abbrev pub IsByText : PlainBlock → Ledger → Event → Reply → Type 0
IsByText b k (Offer o) r = Unit {0}
IsByText b k (Begin n) r = AnswersBegin b k n r
IsByText b k (Skip n) r = AnswersSkip b k n r
IsByText b k (Finish n) r = (t : Turn) → turn_out k n ≡ Some t → EndsAsMeant b k n t r
IsByText b k (Advance ticks) r = Unit {0}
IsByText b k TakeEnv r = Unit {0}

-- The reply is B1 Full exactly for an offer to a full port, and B8 JournalFull exactly if no rebase
-- came in time: the link would accept the event, but the events accepted since the last rebase and
-- the turns that are out leave fewer places than it needs. Turns begin and end, and items are
-- discarded, as the text says.
pub record IsAnswered (b : PlainBlock) (limit : ℕ) (u : Used) (k : Ledger) (e : Event)
    (r : Reply) : Type 0 where
  pub full : (r ≡ reply.Refused Full) ↔ IsForFullPort k e
  pub room : IsToldOfRoom limit u k e r
  pub text : IsByText b k e r
