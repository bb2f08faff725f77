-- The invariant of a book.
use Rattle.std.specs.Prelude.{◌≡◌, ℕ, ◌≤◌}
use Rattle.actor_machine.specs.Core.{Core}
use Rattle.actor_machine.specs.Ledger.{Ledger, state_of}
use Rattle.actor_machine.specs.Kept.{IsKept}
use Rattle.actor_book.specs.Schedules.{HasHistory}

-- the link in memory is the replay of the journal, all fits along it, the journal's memory suffices
-- for its limit, and a schedule led to the book
pub record IsBook (b : Ledger) (w : Core) (capacity : ℕ) : Type 0 where
  pub state : w ≡ state_of b
  pub kept : IsKept b
  pub held : b.limit ≤ capacity
  pub history : ∥ HasHistory b ∥₁
