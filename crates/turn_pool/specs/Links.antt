-- A link of a pool.
use Rattle.std.specs.Prelude.{ℕ}
use Rattle.actor_machine.specs.Ledger.{Ledger}

-- the number of a link, and its book
pub record Link : Type 0 where
  pub number : ℕ
  pub book : Ledger
