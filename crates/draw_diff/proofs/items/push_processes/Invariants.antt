use Rattle.std.proofs.Common.{◌≡◌, ◌++◌, drop, map}
use Rattle.std.specs.List.{flat_map}
use Rattle.draw_diff.specs.Items.{item_of, process_items}
use Rattle.draw_diff.proofs.items.push_processes.Given as goal

abbrev pub invariant-loop-process : goal.invariant-loop-process
invariant-loop-process l =
    map item_of l.items.items ++ flat_map (process_items l.draft) (drop l.process-index l.processes) ≡ map item_of l.initial.items.items ++ flat_map (process_items l.draft) l.processes
