use Rattle.std.proofs.Common.{rules}
use Rattle.actor_machine.specs.Refusals.{advance_rows}
use Rattle.actor_state.proofs.clock.advance_refusal.Goals as goal

pub returns-then-ticks-gt-FARTHEST : goal.returns-then-ticks-gt-FARTHEST
unfolding advance_rows
returns-then-ticks-gt-FARTHEST c = search rules

pub returns-then-clock-ticks-gt-LAST_CLOCK : goal.returns-then-clock-ticks-gt-LAST_CLOCK
unfolding advance_rows
returns-then-clock-ticks-gt-LAST_CLOCK c = search rules

pub returns : goal.returns
unfolding advance_rows
returns c = search rules
