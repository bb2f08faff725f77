use Rattle.std.proofs.Common.{sym}
use Rattle.std.proofs.lemmas.Result.{err_from_is_err_and}
use Rattle.actor_machine.specs.declared.event.Event.TheVariants.{Advance}
use Rattle.turn_pool.proofs.Calls.{own, taken_by}
use Rattle.turn_pool.proofs.pool.Pool.advance.Goals as goal

pub returns-in_err-open_link-clause-refused : goal.returns-in_err-open_link-clause-refused
returns-in_err-open_link-clause-refused g c =
    let p = err_from_is_err_and c.from_residual.result c.from_residual.ensures.1 in
    rw (p.1, p.2) (own (Advance c.args.ticks) c.in_err-open_link.field-0.0 c.in_err-open_link.ensures.own)

pub returns-in-Ok-clause-taken : goal.returns-in-Ok-clause-taken
returns-in-Ok-clause-taken g c =
    taken_by c.args.link _ (Advance c.args.ticks) _ c.deref_mut-slot.result.now.book c.in-Ok.receipt _ c.keeps.ensures c.in-Ok.ensures.answer c.in-Ok.ensures.receipt c.of_link.ensures

pub returns-clause-refused : goal.returns-clause-refused
returns-clause-refused g c = record { book = c.deref_mut-slot.result.now.book; kept = c.keeps.ensures; answers = sym c.in-Err.ensures.answer }
