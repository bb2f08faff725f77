use Rattle.std.proofs.Common.{drop}
use Rattle.std.specs.Prelude.{vec_capacity}
use Rattle.actor_book.specs.Running.{IsUnderWay}
use Rattle.actor_book.proofs.event_runs.run_each.Given as goal

abbrev pub invariant-loop-event : goal.invariant-loop-event
invariant-loop-event l =
    IsUnderWay l.initial.book l.book l.initial.replies.items l.replies.items (vec_capacity l.replies) l.events (drop l.event-index l.events)
