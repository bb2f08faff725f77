use Rattle.actor_book.proofs.Taking.{fits_in}
use Rattle.actor_book.proofs.Turning.{out_at}
use Rattle.actor_book.proofs.Putting.{lies_out}
use Rattle.actor_book.proofs.book.Book.put_out.Goals as goal

pub put_at-requires-clause-fits : goal.put_at-requires-clause-fits
put_at-requires-clause-fits c a h = fits_in c.fits_law.ensures _ _ _ c.self.invariant c.actors.result.now c.args.actor a c.actors.ensures.value h

pub put_at-requires-clause-out : goal.put_at-requires-clause-out
put_at-requires-clause-out c = out_at _ _ _ _ c.self.view_is c.self.invariant _ c.args.actor c.actors.ensures.value c.requires.out

pub returns : goal.returns
returns c = lies_out _ _ _ _ c.self.view_is c.self.invariant _ c.args.actor c.actors.ensures.value _ c.put_at.ensures
