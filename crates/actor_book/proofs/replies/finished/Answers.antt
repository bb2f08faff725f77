use Rattle.std.proofs.Common.{ap, sym, ◌∙◌, ℕ}
use Rattle.actor_machine.specs.Ledger.{ask}
use Rattle.actor_machine.specs.declared.event.Event.TheVariants.{Finish}
use Rattle.actor_machine.specs.declared.reply.Refusal.TheVariants.{Stranger}
use Rattle.actor_book.proofs.Ending.{own_actor, still_own, no_turn}
use Rattle.actor_book.proofs.Taking.{stays, says}
use Rattle.actor_book.proofs.replies.finished.Goals as goal
use Rattle.std.proofs.lemmas.Bool.{false≢true as not_so}

pub returns-in_default-clause-book : goal.returns-in_default-clause-book
returns-in_default-clause-book c =
    sym (stays c.args.book.now (Finish c.args.actor) Stranger
    ((c.out_law.ensures.stranger c.args.book.now c.args.actor c.keeps.ensures).0 (sym c.job.ensures ∙ no_turn c.job.result c.in_default.not-Some)))

pub returns-in_default-clause-reply : goal.returns-in_default-clause-reply
returns-in_default-clause-reply c =
    sym (says c.args.book.now (Finish c.args.actor) Stranger
    ((c.out_law.ensures.stranger c.args.book.now c.args.actor c.keeps.ensures).0 (sym c.job.ensures ∙ no_turn c.job.result c.in_default.not-Some)))

pub unreachable-requires : goal.unreachable-requires
unreachable-requires c =
    not_so (c.in-Err.ensures.accepted.1
    (still_own c.args.book.now c.args.actor c.in-Some.job c.run.result (sym c.job.ensures ∙ c.in-Some.is) c.run.ensures))

pub returns-clause-book : goal.returns-clause-book
returns-clause-book c =
    c.in-Ok.ensures.book
    ∙ ap (λ (k : ℕ). (ask c.args.book.now (Finish k)).book)
    (own_actor c.args.book.now c.args.actor c.in-Some.job c.run.result (sym c.job.ensures ∙ c.in-Some.is) c.run.ensures)

pub returns-clause-reply : goal.returns-clause-reply
returns-clause-reply c =
    sym c.in-Ok.ensures.report
    ∙ ap (λ (k : ℕ). (ask c.args.book.now (Finish k)).answer)
    (own_actor c.args.book.now c.args.actor c.in-Some.job c.run.result (sym c.job.ensures ∙ c.in-Some.is) c.run.ensures)
