-- The count of a step together with the end of its turn, and the numbers of turns and skips of a step.
use Rattle.std.proofs.Common.{ℕ, ◌≤◌, Result, Ok, Err, arith}
use Rattle.turn_machine.specs.Rooms.{Lying}
use Rattle.actor_machine.specs.Ledger.{Ledger}
use Rattle.turn_pool.specs.Moves.{Moves}
use Rattle.turn_pool.specs.Steps.{Counts, CountsEnd, HasCounted, made, most_of, steps_of}
use Rattle.turn_pool.specs.declared.moves.Move.{Move}
use Rattle.turn_pool.specs.declared.moves.Move.TheVariants as move
use Rattle.turn_pool.specs.declared.moves.Moved.{Moved}
use Rattle.turn_pool.specs.declared.moves.Moved.TheVariants.{Begun, Skipped, Finished, Turned}
use Rattle.turn_pool.proofs.Growing.{rests_few}

pub counted : (moved : Moved) (before between after : ℕ) → Counts moved before between → CountsEnd moved between after → HasCounted (steps_of moved) before after
counted (Begun (Ok x)) before between after step ends = (omega (arith, step, ends.0), omega (arith, step, ends.1))
counted (Begun (Err x)) before between after step ends = (omega (arith, step, ends), omega (arith, step, ends))
counted (Skipped (Ok x)) before between after step ends = (omega (arith, step, ends), omega (arith, step, ends))
counted (Skipped (Err x)) before between after step ends = (omega (arith, step, ends), omega (arith, step, ends))
counted (Finished (Ok x)) before between after step ends = (omega (arith, step, ends), omega (arith, step, ends))
counted (Finished (Err x)) before between after step ends = (omega (arith, step, ends), omega (arith, step, ends))
counted (Turned n) before between after step ends = (omega (arith, step.0, ends), omega (arith, step.1, ends))

one_at_most : {A E : Type 0} (r : Result A E) → made r 1 ≤ 1
one_at_most (Ok x) = omega arith
one_at_most (Err x) = omega arith

-- a step makes at most as many turns and skips as it may
pub few : (b c : Ledger) (r l : Lying) (s : Move) (m : Moved) → Moves b r s m c l → steps_of m ≤ most_of s
few b c r l (move.Begin n) (Begun answer) moves = one_at_most answer
few b c r l (move.Begin n) (Skipped answer) moves = absurd moves
few b c r l (move.Begin n) (Finished answer) moves = absurd moves
few b c r l (move.Begin n) (Turned turns) moves = absurd moves
few b c r l (move.Skip n) (Begun answer) moves = absurd moves
few b c r l (move.Skip n) (Skipped answer) moves = one_at_most answer
few b c r l (move.Skip n) (Finished answer) moves = absurd moves
few b c r l (move.Skip n) (Turned turns) moves = absurd moves
few b c r l move.Finish (Begun answer) moves = absurd moves
few b c r l move.Finish (Skipped answer) moves = absurd moves
few b c r l move.Finish (Finished answer) moves = one_at_most answer
few b c r l move.Finish (Turned turns) moves = absurd moves
few b c r l (move.Turns most) (Begun answer) moves = absurd moves
few b c r l (move.Turns most) (Skipped answer) moves = absurd moves
few b c r l (move.Turns most) (Finished answer) moves = absurd moves
few b c r l (move.Turns most) (Turned turns) moves = omega (arith, moves.0.turns, rests_few most b)
