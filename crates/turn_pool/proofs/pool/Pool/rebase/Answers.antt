use Rattle.std.proofs.Common.{ap, ◌∙◌}
use Rattle.std.proofs.lemmas.Result.{err_from_is_err_and}
use Rattle.actor_machine.specs.Ledger.{next}
use Rattle.turn_pool.proofs.Calls.{own_rebase}
use Rattle.turn_pool.proofs.pool.Pool.rebase.Goals as goal

pub returns-in_err-open_link-clause-refused : goal.returns-in_err-open_link-clause-refused
returns-in_err-open_link-clause-refused g c =
    let p = err_from_is_err_and c.from_residual.result c.from_residual.ensures.1 in
    rw (p.1, p.2) (own_rebase c.in_err-open_link.field-0.0 c.in_err-open_link.ensures.own)

pub returns-in-Ok-clause-place : goal.returns-in-Ok-clause-place
returns-in-Ok-clause-place g c =
    record { book = c.deref_mut-slot.result.now.book; kept = c.keeps.ensures; names = c.in-Ok.ensures.place ∙ ap next c.in-Ok.ensures.book }
