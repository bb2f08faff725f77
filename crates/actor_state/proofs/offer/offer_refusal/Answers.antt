use Rattle.std.proofs.Common.{rules}
use Rattle.actor_machine.specs.Refusals.{offer_rows}
use Rattle.actor_state.proofs.offer.offer_refusal.Goals as goal

pub returns-then-has_stopped : goal.returns-then-has_stopped
unfolding offer_rows
returns-then-has_stopped c number = search rules

pub returns-then-not-is_offered : goal.returns-then-not-is_offered
unfolding offer_rows
returns-then-not-is_offered c number = search rules

pub returns-then-signals-capacity : goal.returns-then-signals-capacity
unfolding offer_rows
returns-then-signals-capacity c number = search rules

pub returns : goal.returns
unfolding offer_rows
returns c number = search rules
