use Rattle.std.proofs.Common.{ℕ, sym, ap, ◌∙◌, length, drop}
use Rattle.script_seen.proofs.Steps.{none_lost, all_behind}
use Rattle.script_seen.proofs.Noticing.{watches_since}
use Rattle.script_seen.proofs.tracing.Tracer.watch.Goals as goal

pub returns-clause-first : goal.returns-clause-first
returns-clause-first g c = none_lost c.args.book.now c.args.self.now _ c.in_ok-catch_up.ensures

pub returns-clause-moved : goal.returns-clause-moved
returns-clause-moved g c =
    let done : ℕ = length c.journal-done.result.now in
    (watches_since (λ d ns. g.N.Watcher.knows d ns c.args.watcher.now) (λ d ns. g.N.Watcher.knows d ns c.watch_all.new.watcher) c.args.book.now c.args.self.now _ _
    done _ c.in_ok-catch_up.ensures (ap length c.journal-done.ensures) (all_behind c.journal-journal.result.now done ∙ ap (drop done) c.journal-journal.ensures)
    (record { moved = c.in_ok-watch_all.ensures.moved; knows = c.in_ok-watch_all.ensures.knows })).moved

pub returns-clause-knows : goal.returns-clause-knows
returns-clause-knows g c =
    let done : ℕ = length c.journal-done.result.now in
    (watches_since (λ d ns. g.N.Watcher.knows d ns c.args.watcher.now) (λ d ns. g.N.Watcher.knows d ns c.watch_all.new.watcher) c.args.book.now c.args.self.now _ _
    done _ c.in_ok-catch_up.ensures (ap length c.journal-done.ensures) (all_behind c.journal-journal.result.now done ∙ ap (drop done) c.journal-journal.ensures)
    (record { moved = c.in_ok-watch_all.ensures.moved; knows = c.in_ok-watch_all.ensures.knows })).knows

pub returns-clause-in_step : goal.returns-clause-in_step
returns-clause-in_step g c = sym c.is_in_step.ensures ∙ c.if-not-is_in_step.false
