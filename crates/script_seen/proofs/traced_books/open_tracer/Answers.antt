use Rattle.std.proofs.Common.{subst}
use Rattle.actor_machine.specs.Kept.{opened_book}
use Rattle.actor_book.specs.Limits.{LimitNumbers}
use Rattle.script_seen.specs.TracedKinds.{IsAtStart}
use Rattle.script_seen.proofs.TracedRuns.{opened_at}
use Rattle.script_seen.proofs.traced_books.open_tracer.Goals as goal

pub returns-clause-start : goal.returns-clause-start
returns-clause-start c =
    let P : LimitNumbers → Type 0 = λ l. IsAtStart (opened_book c.args.set.now l.port l.env l.journal) c.in_ok-tracer.tracer in
    subst P c.limits_of.ensures (opened_at c.args.set.now _ _ _ c.in_ok-tracer.tracer c.in_ok-tracer.ensures.book c.in_ok-tracer.ensures.agree)
