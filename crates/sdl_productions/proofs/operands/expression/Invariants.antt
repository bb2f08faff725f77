use Rattle.std.proofs.Common.{◌≡◌, length}
use Rattle.sdl_productions.specs.Machine.{run, low_trees, expression_at}
use Rattle.sdl_productions.specs.Stacks.{state_view}
use Rattle.sdl_productions.proofs.operands.expression.Given as goal

abbrev pub invariant-steps : goal.invariant-steps
invariant-steps l = expression_at low_trees l.tokens ≡ run low_trees (state_view l.state) l.rest

abbrev pub decreases-steps : goal.decreases-steps
decreases-steps l = length l.rest
