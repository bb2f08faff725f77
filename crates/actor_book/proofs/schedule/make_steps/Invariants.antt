use Rattle.std.proofs.Common.{drop}
use Rattle.std.specs.Prelude.{vec_capacity}
use Rattle.actor_book.specs.Midway.{IsMidway}
use Rattle.actor_book.proofs.schedule.make_steps.Given as goal

abbrev pub invariant-loop-step : goal.invariant-loop-step
invariant-loop-step l =
    IsMidway l.initial.book l.book l.initial.replies.items l.replies.items (vec_capacity l.replies) l.steps (drop l.step-index l.steps)
