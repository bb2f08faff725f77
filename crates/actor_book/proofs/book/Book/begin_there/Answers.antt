use Rattle.std.proofs.Common.{ap, sym, ◌∙◌}
use Rattle.actor_machine.specs.Ledger.{Ledger, turn_out}
use Rattle.actor_machine.specs.declared.event.Event.TheVariants.{Begin}
use Rattle.actor_book.proofs.Beginning.{has_begun}
use Rattle.actor_book.proofs.Putting.{begins_there}
use Rattle.actor_book.proofs.Turning.{some_of}
use Rattle.actor_book.proofs.book.Book.begin_there.Goals as goal

pub put_out-requires-clause-out : goal.put_out-requires-clause-out
put_out-requires-clause-out c =
    some_of _ (λ h. has_begun c.state_law.ensures c.set_law.ensures c.args.self.now c.args.actor c.requires.takes c.fits_law.ensures
    (c.keeps_law.ensures.asks c.args.self.now (Begin c.args.actor) c.keeps.ensures)
    (ap (λ (b : Ledger). turn_out b c.args.actor) (sym c.start.ensures.book) ∙ h))

pub returns-clause-began : goal.returns-clause-began
returns-clause-began c =
    begins_there c.state_law.ensures c.set_law.ensures c.args.self.now c.start.new.self c.args.actor _ c.requires.takes c.start.ensures.book c.put_out.ensures
