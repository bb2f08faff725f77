use Rattle.std.proofs.Common.{◌≡◌}
use Rattle.link_processes.specs.Machine.{repeated, one_taken, emptied}
use Rattle.link_processes.proofs.processes.Processes.empty_ring.Given as goal

abbrev pub invariant-loop-left : goal.invariant-loop-left
invariant-loop-left l = repeated one_taken l.left l.self ≡ emptied l.initial.self

abbrev pub decreases-loop-left : goal.decreases-loop-left
decreases-loop-left l = l.left
