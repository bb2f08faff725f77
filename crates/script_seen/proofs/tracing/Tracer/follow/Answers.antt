use Rattle.std.proofs.Common.{ℕ, sym, ap, ◌∙◌, length, drop}
use Rattle.script_seen.proofs.Steps.{followed_since, none_lost, all_behind}
use Rattle.script_seen.proofs.tracing.Tracer.follow.Goals as goal

pub returns-clause-first : goal.returns-clause-first
returns-clause-first g c = none_lost c.args.book.now c.args.self.now _ c.in_ok-catch_up.ensures

pub returns-clause-followed : goal.returns-clause-followed
returns-clause-followed g c =
    let done : ℕ = length c.journal-mine.result.now in
    followed_since c.args.book.now c.args.self.now _ _ done _ _ _ c.in_ok-catch_up.ensures (ap length c.journal-mine.ensures)
    (all_behind c.journal-journal.result.now done ∙ ap (drop done) c.journal-journal.ensures) c.in_ok-happen_all.ensures

pub returns-clause-in_step : goal.returns-clause-in_step
returns-clause-in_step g c = sym c.is_in_step.ensures ∙ c.if-not-is_in_step.false
