use Rattle.std.proofs.Common.{◌≡◌, ◌++◌, drop, codes}
use Rattle.std.specs.List.{flat_map}
use Rattle.draw_diff.specs.Ways.{alone_process}
use Rattle.draw_diff.proofs.counts.push_all.Given as goal

abbrev pub invariant-loop-process : goal.invariant-loop-process
invariant-loop-process l =
    l.text.items ++ flat_map (alone_process (codes "") l.draft) (drop l.process-index l.processes) ≡ l.initial.text.items ++ flat_map (alone_process (codes "") l.draft) l.processes
