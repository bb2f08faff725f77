use Rattle.std.proofs.Common.{◌≡◌, ◌-◌, ◌^◌, min, take}
use Rattle.line_play.specs.SetQueues.{waiting_in, count_of}
use Rattle.line_play.proofs.set.queue.Queue.count.Given as goal

-- the number of those of the selection among the first ones
abbrev pub invariant-loop-place : goal.invariant-loop-place
invariant-loop-place l = l.count ≡ min (2 ^ 64 - 1) (count_of l.selection (take l.place (waiting_in l.self)))
