-- Turns and rests, without the order in which actors are tried.
use Rattle.std.specs.Prelude.{◌≡◌, ◌≢◌, ℕ, zero, suc, ◌+◌, ◌<◌}
use Rattle.actor_machine.specs.Ledger.{Ledger}
use Rattle.actor_book.specs.declared.turn.Turn.TheVariants.{Made, Blocked, Idle}
use Rattle.actor_book.specs.Turns.{Tried, stays, tried, actors_in, least_turn, rests}

-- this actor can have a turn, or could if the journal had room, and no lesser one can
pub record IsLeast (b : Ledger) (n : ℕ) : Type 0 where
  pub there : n < actors_in b
  pub can : (tried n b).turn ≢ Idle
  pub lesser : (m : ℕ) → m < n → (tried m b).turn ≡ Idle

abbrev pub NoneCan : Ledger → Type 0
NoneCan b = (n : ℕ) → n < actors_in b → (tried n b).turn ≡ Idle

-- a try is the least actor's turn; if no actor can have one, nothing happens
pub data IsTurn (b : Ledger) : Tried → Type 0 where
  of_least : (n : ℕ) → IsLeast b n → IsTurn b (tried n b)
  of_none : NoneCan b → IsTurn b (stays b Idle)

-- a try that isn't Made leaves the book as it is
abbrev pub StaysLaw : Type 0
StaysLaw = (n : ℕ) (b : Ledger) → (tried n b).turn ≢ Made → (tried n b).book ≡ b

abbrev pub TurnLaw : Type 0
TurnLaw = (b : Ledger) → IsTurn b (least_turn b)

-- At most so many turns, each of the least actor that can. There are fewer only if none can, or if
-- the journal has no room for the least that could.
pub data IsRun : ℕ → Ledger → ℕ → Ledger → Type 0 where
  spent : (b : Ledger) → IsRun zero b 0 b
  none_can : (k : ℕ) (b : Ledger) → NoneCan b → IsRun k b 0 b
  blocked : (k : ℕ) (b : Ledger) (n : ℕ) → IsLeast b n → (tried n b).turn ≡ Blocked → IsRun k b 0 b
  goes : (k : ℕ) (b : Ledger) (n : ℕ) (turns : ℕ) (c : Ledger) → IsLeast b n
      → (tried n b).turn ≡ Made
      → IsRun k (tried n b).book turns c → IsRun (suc k) b (turns + 1) c

abbrev pub RestLaw : Type 0
RestLaw = (k : ℕ) (b : Ledger) → IsRun k b (rests k b).turns (rests k b).book
