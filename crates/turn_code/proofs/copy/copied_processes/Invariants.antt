use Rattle.std.proofs.Common.{◌≡◌, take}
use Rattle.turn_code.proofs.copy.copied_processes.Given as goal

abbrev pub invariant-loop-process : goal.invariant-loop-process
invariant-loop-process l = l.copy.items ≡ take l.process-index l.process-items
