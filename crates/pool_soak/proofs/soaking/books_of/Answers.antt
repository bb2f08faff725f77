use Rattle.std.proofs.Common.{◌+◌, subst, sym}
use Rattle.pool_soak.specs.Books.{AreOpened}
use Rattle.pool_soak.proofs.Books.{one_more}
use Rattle.pool_soak.proofs.soaking.books_of.Goals as goal

pub loop-opened-preserved : goal.loop-opened-preserved
loop-opened-preserved c =
    let l = c.loop-opened in
    subst (AreOpened c.args.set.now (l._opened + 1)) (sym c.in_ok-push.ensures.items)
    (one_more c.args.set.now l._opened l.books.items c.in_ok-book.book l.invariant c.in_ok-book.ensures)
