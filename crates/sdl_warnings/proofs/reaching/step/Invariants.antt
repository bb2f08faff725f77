use Rattle.std.proofs.Common.{length, nat_eq, ℕ, ◌<◌, ◌||◌, ◌≡◌}
use Rattle.sdl_measures.specs.Links.{graph_in, nexts}
use Rattle.sdl_warnings.specs.Marked.{is_marked}
use Rattle.std.specs.List.{list_any}
use Rattle.sdl_warnings.proofs.reaching.step.Given as goal

abbrev pub invariant-loop-node : goal.invariant-loop-node
invariant-loop-node l =
    (length l.next.items ≡ l.node)
    × ((n : ℕ) → n < l.node → is_marked l.next.items n ≡ (nat_eq n l.target || list_any (is_marked l.marks) (nexts (graph_in l.graph) n)))
