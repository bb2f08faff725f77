use Rattle.std.proofs.Common.{◌≡◌, ◌≤◌}
use Rattle.std.specs.List.{range_with_len}
use Rattle.tick_wheel.specs.Sizes.{NODES}
use Rattle.tick_wheel.proofs.slots.each_itself.Given as goal

abbrev pub invariant-loop-node : goal.invariant-loop-node
invariant-loop-node l = record {
  made : l.links.items ≡ range_with_len 0 l.node;
  within : l.node ≤ NODES;
}
