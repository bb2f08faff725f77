use Rattle.std.proofs.Common.{sym, ◌∙◌}
use Rattle.std.proofs.lemmas.Result.{IfOk-weaker}
use Rattle.std.proofs.lemmas.Bool.{false≢true}
use Rattle.actor_machine.specs.declared.event.Event.TheVariants.{Finish}
use Rattle.actor_machine.specs.declared.reply.Refusal.TheVariants.{Stranger}
use Rattle.actor_book.proofs.Owned.{no_turn, stays, still_own}
use Rattle.script_book.proofs.Saids.{finish_book, finish_line, stranger_line}
use Rattle.script_book.proofs.calls.finish.Goals as goal

pub returns-in_default-clause-book : goal.returns-in_default-clause-book
returns-in_default-clause-book c =
    sym (stays c.args.book.now (Finish c.args.actor.number) Stranger
    ((c.out_law.ensures.stranger c.args.book.now c.args.actor.number c.keeps.ensures).0 (sym c.job.ensures ∙ no_turn c.job.result c.in_default.not-Some)))

pub returns-in_default-clause-line : goal.returns-in_default-clause-line
returns-in_default-clause-line c =
    IfOk-weaker c.refused_line.result _ _
    (λ v h.
    stranger_line c.args.book.now c.args.actor Stranger v.items
    ((c.out_law.ensures.stranger c.args.book.now c.args.actor.number c.keeps.ensures).0 (sym c.job.ensures ∙ no_turn c.job.result c.in_default.not-Some)) h)
    c.refused_line.ensures

pub unreachable-requires : goal.unreachable-requires
unreachable-requires c =
    false≢true (c.in-Err.ensures.accepted.1
    (still_own c.args.book.now c.args.actor.number c.in-Some.job c.run.result (sym c.in-Some.ensures) c.run.ensures))

pub returns-clause-book : goal.returns-clause-book
returns-clause-book c =
    finish_book c.args.book.now c.finish.new.self c.args.actor c.in-Some.job c.run.result c.in-Some.ensures c.run.ensures c.in-Ok.ensures.book

pub returns-clause-line : goal.returns-clause-line
returns-clause-line c =
    IfOk-weaker c.finished_line.result _ _
    (λ v h.
    finish_line c.args.book.now c.finish.new.self c.set.result.now c.args.actor c.in-Some.job c.run.result _ v.items c.in-Some.ensures c.run.ensures c.set.ensures
    c.in-Ok.ensures.book c.in-Ok.ensures.report h)
    c.finished_line.ensures
