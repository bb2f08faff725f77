use Rattle.std.proofs.Common.{◌≡◌, ℕ, ◌+◌, ◌-◌, ◌≤◌, length}
use Rattle.sdl_unset.specs.Visits.{unseen, AreReached, AreVisited, AreExpanded, AreLevels, AreLeast}
use Rattle.sdl_unset.specs.Order.{IsSorted}
use Rattle.sdl_unset.specs.Graph.{IsSeen}
use Rattle.sdl_unset.proofs.paths.search.Given as goal

abbrev pub invariant-loop-next : goal.invariant-loop-next
invariant-loop-next l = record {
  states : length l.seen.items ≡ length l.initial.seen.items;
  stays : (s : ℕ) → IsSeen l.initial.seen.items s → IsSeen l.seen.items s;
  reached : AreReached l.graph l.variable l.visits.items;
  visited : AreVisited l.seen.items l.visits.items;
  count : length l.visits.items + unseen l.seen.items ≡ length l.seen.items;
  expanded : AreExpanded l.graph l.variable l.seen.items l.visits.items l.next;
  levels : AreLevels l.graph l.variable l.visits.items l.next;
  least : IsSorted l.graph → AreLeast l.graph l.variable l.visits.items l.next;
  within : l.next ≤ length l.visits.items;
}

abbrev pub decreases-loop-next : goal.decreases-loop-next
decreases-loop-next l = length l.seen.items - l.next
