use Rattle.std.proofs.Common.{ap, sym, ◌∙◌}
use Rattle.actor_machine.specs.Ledger.{Ledger, turn_out}
use Rattle.actor_machine.specs.declared.event.Event.TheVariants.{Begin}
use Rattle.actor_book.proofs.Beginning.{has_begun, begin_answer}
use Rattle.actor_book.proofs.Taking.{none_left, stays, says}
use Rattle.actor_book.proofs.book.Book.begin.Goals as goal

pub returns-in-Some-clause-book : goal.returns-in-Some-clause-book
returns-in-Some-clause-book c = sym (stays c.args.self.now (Begin c.args.actor) c.in-Some.refusal (sym c.begin_refusal.ensures ∙ c.in-Some.is))

pub returns-in-Some-clause-answer : goal.returns-in-Some-clause-answer
returns-in-Some-clause-answer c = sym (says c.args.self.now (Begin c.args.actor) c.in-Some.refusal (sym c.begin_refusal.ensures ∙ c.in-Some.is))

pub unreachable-requires : goal.unreachable-requires
unreachable-requires c =
    has_begun c.state_law.ensures c.set_law.ensures c.args.self.now c.args.actor
    (sym c.begin_refusal.ensures ∙ none_left c.begin_refusal.result c.in_default.not-Some)
    c.fits_law.ensures (c.keeps_law.ensures.asks c.args.self.now (Begin c.args.actor) c.keeps.ensures)
    (ap (λ (b : Ledger). turn_out b c.args.actor) (sym c.start.ensures.book) ∙ sym c.job.ensures ∙ c.in-None.is)

pub returns-clause-answer : goal.returns-clause-answer
returns-clause-answer c =
    begin_answer c.state_law.ensures c.set_law.ensures c.args.self.now c.args.actor
    (sym c.begin_refusal.ensures ∙ none_left c.begin_refusal.result c.in_default.not-Some)
    c.in-Some-job.job
    (ap (λ (b : Ledger). turn_out b c.args.actor) (sym c.start.ensures.book) ∙ sym c.job.ensures ∙ c.in-Some-job.is)
