use Rattle.std.proofs.Common.{ap, ◌∙◌, List}
use Rattle.std.specs.Prelude.{slice_get}
use Rattle.actor_machine.specs.Core.{Core}
use Rattle.actor_machine.specs.Ledger.{Ledger, state_of, turn_at, turn_out}
use Rattle.actor_machine.specs.declared.actor.Actor.{Actor}
use Rattle.actor_book.proofs.Taking.{fits_in}
use Rattle.actor_book.proofs.book.Book.job.Goals as goal

pub job_at-requires : goal.job_at-requires
job_at-requires c a h =
    fits_in c.fits_law.ensures _ _ _ c.self.invariant c.actors.result.now c.args.actor a c.actors.ensures.value h

pub returns : goal.returns
unfolding turn_out
returns c =
    c.job_at.ensures
    ∙ ap (λ (xs : List Actor). turn_at c.self.inside.set c.args.actor (slice_get xs c.args.actor)) (c.actors.ensures.value ∙ ap (λ (w : Core). w.actors) c.self.invariant.state)
    ∙ ap (λ (b : Ledger). turn_at b.set c.args.actor (slice_get (state_of b).actors c.args.actor)) c.self.view_is
