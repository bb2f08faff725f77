use Rattle.std.proofs.Common.{◌≡◌, ℕ, ◌<◌, Some, slice_get}
use Rattle.turn_pool.specs.Receipts.{StandsIn}
use Rattle.turn_pool.specs.declared.receipt.Receipt.{Receipt}
use Rattle.turn_pool.proofs.closed.audited.Given as goal

abbrev pub invariant-loop-position : goal.invariant-loop-position
invariant-loop-position l = (i : ℕ) (r : Receipt) → i < l.position → slice_get l.receipts i ≡ Some r → StandsIn l.books r
