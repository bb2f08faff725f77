use Rattle.std.proofs.Common.{rules}
use Rattle.actor_machine.specs.Refusals.{begin_rows}
use Rattle.actor_state.proofs.turn.begin_refusal.Goals as goal

pub returns-then-is_out : goal.returns-then-is_out
unfolding begin_rows
returns-then-is_out c = search rules

pub returns-in-Nothing : goal.returns-in-Nothing
unfolding begin_rows
returns-in-Nothing c = search rules

pub returns-in-Ignored : goal.returns-in-Ignored
unfolding begin_rows
returns-in-Ignored c = search rules

pub returns-then-turns-ge-TURNS : goal.returns-then-turns-ge-TURNS
unfolding begin_rows
returns-then-turns-ge-TURNS c = search rules

pub returns-else-turns-ge-TURNS : goal.returns-else-turns-ge-TURNS
unfolding begin_rows
returns-else-turns-ge-TURNS c = search rules
