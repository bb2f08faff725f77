use Rattle.std.proofs.Common.{◌≡◌, sym, ap, ◌∙◌}
use Rattle.std.proofs.lemmas.Result.{IfOk-equal}
use Rattle.actor_machine.specs.Ledger.{runs}
use Rattle.actor_book.specs.Schedules.{stepped_by}
use Rattle.actor_book.specs.declared.schedule.Scheduled.{Scheduled}
use Rattle.actor_book.proofs.Schedulings.{rebased_is}
use Rattle.actor_book.proofs.schedule.make_step.Goals as goal

pub returns-in-Rebase-clause-book : goal.returns-in-Rebase-clause-book
returns-in-Rebase-clause-book c =
    let b = c.args.book.now in
    IfOk-equal c.rebase.result _ _ _ c.rebase.ensures.ok (sym (rebased_is b) ∙ ap (λ (s : Scheduled). stepped_by (runs b.set) b s) (sym c.in-Rebase.is))
