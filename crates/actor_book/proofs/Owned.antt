-- A turn that is out is its actor's own.
use Rattle.std.proofs.Common.{◌≡◌, ℕ, Some, refl}
use Rattle.turn_machine.specs.Turn.{Turn}
use Rattle.actor_machine.specs.Ledger.{Ledger, turn_out}
use Rattle.actor_book.proofs.Ending.{own_actor as own}
pub use Rattle.actor_book.proofs.Ending.{no_turn, still_own}
pub use Rattle.actor_book.proofs.Taking.{says, stays}

-- the turn that an actor has out is its own
pub own_actor : (b : Ledger) (n : ℕ) (t : Turn) → turn_out b n ≡ Some t → t.actor ≡ n
own_actor b n t h = own b n t t h refl
