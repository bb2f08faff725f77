use Rattle.std.proofs.Common.{◌≡◌, ◌≤◌, drop, length}
use Rattle.sdl_emit.specs.Scopes.{scope_in}
use Rattle.sdl_compile.specs.Entries.{connections_met}
use Rattle.sdl_compile.proofs.entries.meet_connections.Given as goal

abbrev pub invariant-loop-left : goal.invariant-loop-left
invariant-loop-left l = record {
  entries : l.entries.items ≡ connections_met (scope_in l.names) (drop l.left l.order) l.initial.entries.items;
  low : l.left ≤ length l.order;
}

abbrev pub decreases-loop-left : goal.decreases-loop-left
decreases-loop-left l = l.left
