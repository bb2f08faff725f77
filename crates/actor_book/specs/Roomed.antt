-- Turns that begin into a worker's room and end from it.
use Rattle.std.specs.Prelude.{◌≡◌, ◌≤◌, ℕ, List, Option, Some, codes}
use Rattle.turn_machine.specs.Rooms.{Lying, Free, Begun, Ran}
use Rattle.turn_machine.specs.Turn.{Turn}
use Rattle.actor_machine.specs.Ledger.{Ledger, ask, turn_out}
use Rattle.actor_machine.specs.Printed.{refusal_text}
use Rattle.actor_machine.specs.Step.{Says}
use Rattle.actor_machine.specs.declared.event.Event.TheVariants.{Begin, Finish}
use Rattle.actor_machine.specs.declared.reply.Report.{Report}
use Rattle.actor_machine.specs.declared.reply.Reply.TheVariants as reply
use Rattle.actor_book.specs.Answered.{begun_by}
use Rattle.actor_book.specs.Meant.{FinishesByText}
use Rattle.actor_book.specs.declared.rooms.RoomRefusal.{RoomRefusal}
use Rattle.actor_book.specs.declared.rooms.RoomRefusal.TheVariants.{Taken, Refused}

-- there is a turn, and the room holds it before its run
pub record LiesOut (o : Option Turn) (r : Lying) : Type 0 where
  pub turn : Turn
  pub is : o ≡ Some turn
  pub lies : r ≡ Begun turn

-- an actor has begun a turn, and the room holds the turn that it then has out
pub record BeginsThere (b : Ledger) (actor : ℕ) (c : Ledger) (r : Lying) : Type 0 where
  pub turn : Turn
  pub lies : r ≡ Begun turn
  pub out : turn_out c actor ≡ Some turn
  pub began : (ask b (Begin actor)).answer ≡ Says (begun_by turn)

-- why no turn begins: the room isn't free, or it is and the book refuses the turn
abbrev pub BeginsNone : Ledger → ℕ → Lying → RoomRefusal → Type 0
BeginsNone b actor r Taken = r ≡ Free → ⊥
BeginsNone b actor r (Refused x) =
    (r ≡ Free) × ((ask b (Begin actor)).answer ≡ Says (reply.Refused x))

-- the turn that ran in the room is the one that its actor has out
abbrev pub IsOutThere : Ledger → Lying → Type 0
IsOutThere b Free = ⊥
IsOutThere b (Begun t) = ⊥
IsOutThere b (Ran t) = turn_out b t.actor ≡ Some t

-- the turn that ran in the room is the one that this actor has out
abbrev pub HasOutThere : Ledger → Lying → ℕ → Type 0
HasOutThere b Free actor = ⊥
HasOutThere b (Begun t) actor = ⊥
HasOutThere b (Ran t) actor = (t.actor ≡ actor) × (turn_out b actor ≡ Some t)

-- a turn that its actor had out ended with this report, also by any meaning of the set
pub record EndsTurn (b : Ledger) (t : Turn) (report : Report) (c : Ledger) : Type 0 where
  pub book : c ≡ (ask b (Finish t.actor)).book
  pub answers : (ask b (Finish t.actor)).answer ≡ Says (reply.Finished report)
  pub by_text : FinishesByText b t.actor report c
  pub within : report.count ≤ t.certificate.budget

-- the turn that ran in the room has ended with this report
abbrev pub EndsThere : Ledger → Lying → Report → Ledger → Type 0
EndsThere b Free report c = ⊥
EndsThere b (Begun t) report c = ⊥
EndsThere b (Ran t) report c = EndsTurn b t report c

abbrev pub room_refusal_text : RoomRefusal → List ℕ
room_refusal_text Taken = codes "B13 Taken"
room_refusal_text (Refused x) = refusal_text x
