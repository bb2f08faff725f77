use Rattle.std.proofs.Common.{ap, sym, ◌∙◌, subst}
use Rattle.actor_machine.specs.Ledger.{Ledger, ask, turn_out}
use Rattle.actor_machine.specs.declared.event.Event.TheVariants.{Begin, Finish}
use Rattle.actor_book.specs.Whole.{TookWithin}
use Rattle.actor_book.proofs.Beginning.{has_begun}
use Rattle.actor_book.proofs.Meant.{turns_by_text}
use Rattle.actor_book.proofs.Turning.{some_of, has_turned}
use Rattle.actor_book.proofs.book.Book.turn_through.Goals as goal

pub run_out-requires : goal.run_out-requires
run_out-requires c =
    some_of _ (λ h. has_begun c.state_law.ensures c.set_law.ensures c.args.self.now c.args.actor c.requires c.fits_law.ensures
    (c.keeps_law.ensures.asks c.args.self.now (Begin c.args.actor) c.keeps.ensures)
    (ap (λ (b : Ledger). turn_out b c.args.actor) (sym c.start.ensures.book) ∙ h))

pub returns-clause-book : goal.returns-clause-book
returns-clause-book c = c.run_out.ensures.book ∙ ap (λ (b : Ledger). (ask b (Finish c.args.actor)).book) c.start.ensures.book

pub returns-clause-report : goal.returns-clause-report
returns-clause-report c =
    sym (c.run_out.ensures.answer ∙ ap (λ (b : Ledger). (ask b (Finish c.args.actor)).answer) c.start.ensures.book)

pub returns-clause-took : goal.returns-clause-took
returns-clause-took c =
    has_turned c.state_law.ensures c.set_law.ensures c.args.self.now c.args.actor _ c.requires
    (subst (λ (b : Ledger). TookWithin (turn_out b c.args.actor) c.run_out.result.count) c.start.ensures.book c.run_out.ensures.within)

pub returns-clause-by_text : goal.returns-clause-by_text
returns-clause-by_text c =
    turns_by_text c.text_law.ensures c.keeps_law.ensures c.set_law.ensures c.args.self.now c.args.actor _ _ c.keeps.ensures
    (c.run_out.ensures.book ∙ ap (λ (b : Ledger). (ask b (Finish c.args.actor)).book) c.start.ensures.book)
    (sym (c.run_out.ensures.answer ∙ ap (λ (b : Ledger). (ask b (Finish c.args.actor)).answer) c.start.ensures.book))
