use Rattle.std.proofs.Common.{◌≡◌, ◌≤◌, ◌*◌, sum_by, take}
use Rattle.actor_machine.specs.Ledger.{next}
use Rattle.pool_soak.proofs.findings.places.Given as goal

abbrev pub invariant-loop-book : goal.invariant-loop-book
invariant-loop-book l = (l.all ≡ sum_by next (take l.book-index l.books)) × (l.all ≤ l.book-index * 18446744073709551615)
