use Rattle.std.proofs.Common.{◌≡◌, ◌-◌, ◌≤◌, ℕ, length}
use Rattle.sdl_measures.specs.Links.{graph_in}
use Rattle.sdl_measures.specs.Searched.{IsMarked, AreFound}
use Rattle.sdl_measures.proofs.Marking.{AreFollowed, AreReached}
use Rattle.sdl_measures.proofs.graph.follow.Given as goal

abbrev pub invariant-loop-next : goal.invariant-loop-next
invariant-loop-next l = record {
  count : length l.marks.items ≡ length l.initial.marks.items;
  stays : (n : ℕ) → IsMarked l.initial.marks.items n → IsMarked l.marks.items n;
  found : AreFound l.marks.items l.found.items;
  followed : AreFollowed (graph_in l.graph) l.marks.items l.found.items l.next;
  reached : AreReached (graph_in l.graph) l.initial.found.items l.found.items;
  within : l.next ≤ length l.found.items;
}

abbrev pub decreases-loop-next : goal.decreases-loop-next
decreases-loop-next l = length l.marks.items - l.next
