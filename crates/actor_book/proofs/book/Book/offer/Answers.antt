use Rattle.std.proofs.Common.{sym, ◌∙◌}
use Rattle.actor_machine.specs.declared.event.Event.TheVariants.{Offer as Offered}
use Rattle.actor_book.proofs.Offering.{few_values}
use Rattle.actor_book.proofs.Taking.{none_left, stays, says}
use Rattle.actor_book.proofs.book.Book.offer.Goals as goal

pub offer_of-requires : goal.offer_of-requires
offer_of-requires c =
    few_values c.args.self.now (record { actor = c.args.actor; signal = c.args.signal; values = record { items = c.args.values.now } }) c.keeps.ensures
    (sym c.offer_refusal.ensures ∙ none_left c.offer_refusal.result c.in_default.not-Some)

pub returns-in-Some-clause-book : goal.returns-in-Some-clause-book
returns-in-Some-clause-book c =
    sym (stays c.args.self.now (Offered (record { actor = c.args.actor; signal = c.args.signal; values = record { items = c.args.values.now } }))
    c.in-Some.refusal (sym c.offer_refusal.ensures ∙ c.in-Some.is))

pub returns-in-Some-clause-answer : goal.returns-in-Some-clause-answer
returns-in-Some-clause-answer c =
    sym (says c.args.self.now (Offered (record { actor = c.args.actor; signal = c.args.signal; values = record { items = c.args.values.now } }))
    c.in-Some.refusal (sym c.offer_refusal.ensures ∙ c.in-Some.is))
