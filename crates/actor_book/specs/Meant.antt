-- A turn's end by any meaning of the set, such as that of the text from which the set comes.
use Rattle.std.specs.Prelude.{◌≡◌, ℕ}
use Rattle.turn_code.specs.Outcome.{Meaning, Means}
use Rattle.actor_machine.specs.Ledger.{Ledger, Asked, ask_by, state_by, state_of}
use Rattle.actor_machine.specs.Step.{Answer, Says}
use Rattle.actor_machine.specs.declared.event.Event.TheVariants.{Begin, Finish}
use Rattle.actor_machine.specs.declared.reply.Refusal.{Refusal}
use Rattle.actor_machine.specs.declared.reply.Report.{Report}
use Rattle.actor_machine.specs.declared.reply.Reply.TheVariants as reply

-- by this meaning of turns, an event has this answer and leaves this book, whose state follows by
-- that meaning too
pub record ComesTo (act : Meaning) (asked : Asked) (answer : Answer) (after : Ledger) : Type 0 where
  pub answers : asked.answer ≡ answer
  pub book : after ≡ asked.book
  pub state : state_of after ≡ state_by act after

-- the turn that actor n has out ends with this report and leaves this book, by any meaning of the
-- set
abbrev pub FinishesByText : Ledger → ℕ → Report → Ledger → Type 0
FinishesByText b n report after =
    (act : Meaning) → Means act b.set
    → ComesTo act (ask_by act b (Finish n)) (Says (reply.Finished report)) after

-- actor n begins a turn and ends it, by a meaning of turns
abbrev pub turned_by : Meaning → Ledger → ℕ → Asked
turned_by act b n = ask_by act (ask_by act b (Begin n)).book (Finish n)

-- a whole turn of actor n ends with this report and leaves this book, by any meaning of the set
abbrev pub TurnsByText : Ledger → ℕ → Report → Ledger → Type 0
TurnsByText b n report after =
    (act : Meaning) → Means act b.set
    → ComesTo act (turned_by act b n) (Says (reply.Finished report)) after

-- actor n can't begin a turn, for this reason, by any meaning of the set
abbrev pub RefusesByText : Ledger → ℕ → Refusal → Type 0
RefusesByText b n r =
    (act : Meaning) → Means act b.set → (ask_by act b (Begin n)).answer ≡ Says (reply.Refused r)
