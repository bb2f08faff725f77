-- The steps of a worker.
use Rattle.std.specs.Prelude.{◌≡◌, ◌↔◌, ℕ, Result, Ok, Err, IsOk}
use Rattle.turn_code.specs.declared.draft.Trigger.{Trigger}
use Rattle.turn_machine.specs.Rooms.{Lying, Free}
use Rattle.actor_machine.specs.Ledger.{Ledger, ask}
use Rattle.actor_machine.specs.declared.event.Event.TheVariants.{Begin, Skip}
use Rattle.actor_machine.specs.declared.reply.Refusal.{Refusal}
use Rattle.actor_machine.specs.declared.reply.Refusal.TheVariants.{Stranger}
use Rattle.actor_machine.specs.declared.reply.Report.{Report}
use Rattle.actor_machine.specs.declared.reply.Reply.TheVariants as reply
use Rattle.actor_book.specs.Answered.{answer_by}
use Rattle.actor_book.specs.Roomed.{BeginsThere, BeginsNone, IsOutThere, EndsThere}
use Rattle.actor_book.specs.Turns.{rests}
use Rattle.actor_book.specs.declared.rooms.RoomRefusal.{RoomRefusal}
use Rattle.turn_pool.specs.declared.moves.Move.{Move}
use Rattle.turn_pool.specs.declared.moves.Move.TheVariants as move
use Rattle.turn_pool.specs.declared.moves.Moved.{Moved}
use Rattle.turn_pool.specs.declared.moves.Moved.TheVariants as moved

-- an actor begins a turn in an empty room; the room then holds the job that the actor has out
pub record Begins (b : Ledger) (r : Lying) (actor : ℕ) (c : Ledger) (s : Lying) : Type 0 where
  pub free : r ≡ Free
  pub book : c ≡ (ask b (Begin actor)).book
  pub began : BeginsThere b actor c s

-- the actor doesn't begin a turn, for this reason, and nothing changes
pub record Refuses (b : Ledger) (r : Lying) (actor : ℕ) (x : RoomRefusal) (c : Ledger)
    (s : Lying) : Type 0 where
  pub refused : BeginsNone b actor r x
  pub same : c ≡ b
  pub stays : s ≡ r

abbrev pub BeginsIn : {A : Type 0} → Ledger → Lying → ℕ → Result A RoomRefusal → Ledger → Lying
    → Type 0
BeginsIn b r actor (Ok x) c s = Begins b r actor c s
BeginsIn b r actor (Err x) c s = Refuses b r actor x c s

-- an actor discards an item
pub record Skips (b : Ledger) (actor : ℕ) (answer : Result Trigger Refusal) (c : Ledger) :
    Type 0 where
  pub book : c ≡ (ask b (Skip actor)).book
  pub answers : answer_by reply.Skipped answer ≡ (ask b (Skip actor)).answer

abbrev pub EndsIn : Ledger → Lying → Result Report Refusal → Ledger → Lying → Type 0
EndsIn b r (Ok report) c s = EndsThere b r report c × (s ≡ Free)
EndsIn b r (Err x) c s = (x ≡ Stranger) × (c ≡ b) × (s ≡ r)

-- the turn that ran in the room is accepted exactly if its actor has it out; then the room is
-- empty, otherwise nothing changes
pub record FinishesIn (b : Ledger) (r : Lying) (answer : Result Report Refusal) (c : Ledger)
    (s : Lying) : Type 0 where
  pub taken : IsOk answer ↔ IsOutThere b r
  pub ends : EndsIn b r answer c s

-- actors take whole turns or discard items, one after another, at most `most`: those of `rests`,
-- each by the first actor that can, and fewer only if `rests` ends early
pub record HasTurns (b : Ledger) (most n : ℕ) (c : Ledger) : Type 0 where
  pub turns : n ≡ (rests most b).turns
  pub book : c ≡ (rests most b).book

-- one step of a worker on a book with its room, and the result
abbrev pub Moves : Ledger → Lying → Move → Moved → Ledger → Lying → Type 0
Moves b r (move.Begin actor) (moved.Begun answer) c s = BeginsIn b r actor answer c s
Moves b r (move.Begin actor) (moved.Skipped answer) c s = ⊥
Moves b r (move.Begin actor) (moved.Finished answer) c s = ⊥
Moves b r (move.Begin actor) (moved.Turned turns) c s = ⊥
Moves b r (move.Skip actor) (moved.Begun answer) c s = ⊥
Moves b r (move.Skip actor) (moved.Skipped answer) c s = Skips b actor answer c × (s ≡ r)
Moves b r (move.Skip actor) (moved.Finished answer) c s = ⊥
Moves b r (move.Skip actor) (moved.Turned turns) c s = ⊥
Moves b r move.Finish (moved.Begun answer) c s = ⊥
Moves b r move.Finish (moved.Skipped answer) c s = ⊥
Moves b r move.Finish (moved.Finished answer) c s = FinishesIn b r answer c s
Moves b r move.Finish (moved.Turned turns) c s = ⊥
Moves b r (move.Turns most) (moved.Begun answer) c s = ⊥
Moves b r (move.Turns most) (moved.Skipped answer) c s = ⊥
Moves b r (move.Turns most) (moved.Finished answer) c s = ⊥
Moves b r (move.Turns most) (moved.Turned turns) c s = HasTurns b most turns c × (s ≡ r)
