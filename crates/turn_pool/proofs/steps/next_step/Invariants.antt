use Rattle.std.proofs.Common.{◌≡◌, ℕ, ◌<◌, None}
use Rattle.turn_pool.specs.Turns.{move_of}
use Rattle.turn_pool.proofs.steps.next_step.Given as goal

-- no actor before this one can do anything
abbrev pub invariant-loop-actor : goal.invariant-loop-actor
invariant-loop-actor l = (n : ℕ) → n < l.actor → move_of l.book n ≡ None
