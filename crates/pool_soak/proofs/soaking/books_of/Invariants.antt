-- As many books are open as iterations have run.
use Rattle.pool_soak.specs.Books.{AreOpened}
use Rattle.pool_soak.proofs.soaking.books_of.Given as goal

abbrev pub invariant-loop-opened : goal.invariant-loop-opened
invariant-loop-opened l = AreOpened l.set l._opened l.books.items
