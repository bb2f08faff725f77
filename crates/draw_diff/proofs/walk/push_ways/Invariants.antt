use Rattle.std.proofs.Common.{◌≡◌, ◌++◌, drop, map}
use Rattle.std.specs.List.{flat_map}
use Rattle.draw_diff.specs.Ways.{process_lines}
use Rattle.draw_diff.proofs.walk.push_ways.Given as goal

abbrev pub invariant-loop-process : goal.invariant-loop-process
invariant-loop-process l =
    l.text.items ++ flat_map (λ p. process_lines l.side l.set l.other_set p l.other_set.processes) (drop l.process-index l.set.processes) ≡ l.initial.text.items ++ flat_map (λ p. process_lines l.side l.set l.other_set p l.other_set.processes) l.set.processes
