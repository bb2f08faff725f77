use Rattle.std.proofs.Common.{◌≡◌}
use Rattle.link_processes.specs.Machine.{repeated, moved, rested}
use Rattle.link_processes.proofs.processes.Processes.rest.Given as goal

abbrev pub invariant-loop-left : goal.invariant-loop-left
invariant-loop-left l = repeated moved l.left l.self ≡ rested l.initial.self

abbrev pub decreases-loop-left : goal.decreases-loop-left
decreases-loop-left l = l.left
