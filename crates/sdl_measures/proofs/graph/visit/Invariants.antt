use Rattle.std.proofs.Common.{◌≡◌, ◌+◌, ℕ, Some, length}
use Rattle.std.specs.Prelude.{slice_get}
use Rattle.sdl_measures.specs.Links.{graph_in}
use Rattle.sdl_measures.specs.Searched.{unseen, IsSearch}
use Rattle.sdl_measures.specs.declared.graph.Mark.TheVariants.{New}
use Rattle.sdl_measures.proofs.graph.visit.Given as goal

abbrev pub invariant-loop-marks : goal.invariant-loop-marks
invariant-loop-marks l = record {
  search : IsSearch (graph_in l.graph) l.marks.items l.path.items l.order.items;
  seen : (n : ℕ) → slice_get l.marks.items n ≡ Some New → slice_get l.fn.marks.items n ≡ Some New;
  visited : slice_get l.marks.items l.root ≡ Some New → ⊥;
}

abbrev pub decreases-loop-marks : goal.decreases-loop-marks
decreases-loop-marks l = unseen l.marks.items + unseen l.marks.items + length l.path.items
