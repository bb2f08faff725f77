use Rattle.std.proofs.Common.{length, ℕ, ◌<◌, ◌≡◌}
use Rattle.sdl_measures.specs.Links.{goes, graph_in}
use Rattle.sdl_warnings.specs.Reaches.{is_way_in}
use Rattle.sdl_warnings.proofs.reaching.find_ways.Given as goal

abbrev pub invariant-loop-target : goal.invariant-loop-target
invariant-loop-target l =
    (length l.ways.items ≡ l.target)
    × ((n m : ℕ) → m < l.target → is_way_in l.ways.items n m ≡ goes (graph_in l.graph) n m)
