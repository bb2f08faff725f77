use Rattle.std.proofs.Common.{◌≡◌, ◌<◌, ℕ, [], Some}
use Rattle.std.specs.Prelude.{slice_get}
use Rattle.sdl_measures.specs.Links.{graph_in}
use Rattle.sdl_measures.specs.Searched.{IsSearch}
use Rattle.sdl_measures.specs.declared.graph.Mark.TheVariants.{New}
use Rattle.sdl_measures.proofs.graph.order_nodes.Given as goal

abbrev pub invariant-loop-root : goal.invariant-loop-root
invariant-loop-root l = record {
  search : IsSearch (graph_in l.graph) l.marks.items l.path.items l.order.items;
  done : l.path.items ≡ [];
  visited : (n : ℕ) → n < l.root → slice_get l.marks.items n ≡ Some New → ⊥;
}
