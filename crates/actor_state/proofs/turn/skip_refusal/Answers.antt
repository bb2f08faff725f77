use Rattle.std.proofs.Common.{rules}
use Rattle.actor_machine.specs.Refusals.{skip_rows}
use Rattle.actor_state.proofs.turn.skip_refusal.Goals as goal

pub returns-then-is_out : goal.returns-then-is_out
unfolding skip_rows
returns-then-is_out c = search rules

pub returns-in-Nothing : goal.returns-in-Nothing
unfolding skip_rows
returns-in-Nothing c = search rules

pub returns-in-Start : goal.returns-in-Start
unfolding skip_rows
returns-in-Start c = search rules

pub returns-in-Ignored : goal.returns-in-Ignored
unfolding skip_rows
returns-in-Ignored c = search rules
