-- Laws that follow from the steps of a terminal.
use Rattle.std.specs.Prelude.{◌≡◌, ℕ, zero, suc, ◌+◌, ◌++◌, ◌≤◌, Bool, Option, List, [], length}
use Rattle.su_octets.specs.declared.units.Unit.{Unit}
use Rattle.actor_book.specs.declared.turn.Turn.TheVariants.{Made, Blocked}
use Rattle.actor_book.specs.Turns.{MOST_TURNS, tried}
use Rattle.actor_book.specs.Laws.{IsLeast, NoneCan}
use Rattle.link_transceiver.specs.declared.offers.Offer.{Offer}
use Rattle.link_transceiver.specs.Laws.{Loses, accepted_of, acknowledged_of}
use Rattle.link_transceiver.specs.TransceiverState.{kept_of, sent_of}
use Rattle.link_processes.specs.declared.processes.Processes.{Processes}
use Rattle.link_processes.specs.Machine.{turned, emptied, rested, offered, all_offered}
use Rattle.link_processes.specs.Machine.{unit_taken, error_taken, octets_taken, counting_told}
use Rattle.link_processes.specs.Machine.{unit_gone, handed_out, buffers_emptied}
use Rattle.actor_machine.specs.declared.event.Event.{Event}

-- At most so many turns, each of the least actor that can have one. After each, all signals for the
-- environment are taken. There are fewer only if no actor can have a turn, or the journal has no
-- room for the least that could.
pub data IsRun : ℕ → Processes → Processes → Type 0 where
  spent : (t : Processes) → IsRun zero t t
  none_can : (k : ℕ) (t : Processes) → NoneCan t.book → IsRun k t t
  blocked : (k : ℕ) (t : Processes) (n : ℕ) → IsLeast t.book n → (tried n t.book).turn ≡ Blocked
      → IsRun k t t
  goes : (k : ℕ) (t u : Processes) (n : ℕ) → IsLeast t.book n → (tried n t.book).turn ≡ Made
      → IsRun k (emptied (turned t (tried n t.book).book)) u → IsRun (suc k) t u

abbrev pub RestLaw : Type 0
RestLaw = (t : Processes) → IsRun MOST_TURNS t (rested t)

-- Only received units change the messages that wait to be handed out. Each puts its message, if the
-- receiver accepts it, after the others.
pub record MessagesLaw : Type 0 where
  pub events :
      (e : Event) (t : Processes) → (offered e t).transceiver.messages ≡ t.transceiver.messages
  pub offers :
      (os : List Offer) (t : Processes)
      → (all_offered os t).transceiver.messages ≡ t.transceiver.messages
  pub units :
      (u : Unit) (t : Processes)
      → (unit_taken u t).transceiver.messages
      ≡ t.transceiver.messages ++ accepted_of t.transceiver u
  pub errors : (t : Processes) → (error_taken t).transceiver.messages ≡ t.transceiver.messages
  pub octets : (t : Processes) → (octets_taken t).transceiver.messages ≡ t.transceiver.messages
  pub counting :
      (on : Bool) (t : Processes)
      → (counting_told on t).transceiver.messages ≡ t.transceiver.messages
  pub sends : (t : Processes) → (unit_gone t).transceiver.messages ≡ t.transceiver.messages
  pub few : (u : Unit) (t : Processes)
      → length (unit_taken u t).transceiver.messages ≤ length t.transceiver.messages + 1

-- A received unit removes the messages that it acknowledges from those held for sending. A
-- retrieval and a clearing of the buffers remove all. Nothing else removes any, and only sent units
-- make more of them count as sent.
pub record KeptLaw : Type 0 where
  pub events :
      (e : Event) (t : Processes) → Loses [] t.transceiver.sender (offered e t).transceiver.sender
  pub offers :
      (os : List Offer) (t : Processes)
      → Loses [] t.transceiver.sender (all_offered os t).transceiver.sender
  pub units :
      (u : Unit) (t : Processes)
      → Loses (acknowledged_of t.transceiver u) t.transceiver.sender
      (unit_taken u t).transceiver.sender
  pub errors : (t : Processes) → Loses [] t.transceiver.sender (error_taken t).transceiver.sender
  pub octets : (t : Processes) → Loses [] t.transceiver.sender (octets_taken t).transceiver.sender
  pub counting :
      (on : Bool) (t : Processes)
      → Loses [] t.transceiver.sender (counting_told on t).transceiver.sender
  pub sends :
      (t : Processes) → kept_of (unit_gone t).transceiver ≡ kept_of t.transceiver
  pub one_sent :
      (t : Processes) → sent_of (unit_gone t).transceiver ≤ sent_of t.transceiver + 1
  -- what is left after a retrieval, and after the buffers are cleared
  pub retrievals :
      (accepted : Option ℕ) (t : Processes) → kept_of (handed_out accepted t).transceiver ≡ []
  pub clears : (t : Processes) → kept_of (buffers_emptied t).transceiver ≡ []
