use Rattle.std.proofs.Common.{length, ℕ, ◌≡◌}
use Rattle.sdl_measures.specs.Links.{goes_by, graph_in}
use Rattle.sdl_warnings.specs.Marked.{is_marked}
use Rattle.sdl_warnings.proofs.reaching.from_where.Given as goal

abbrev pub invariant-loop-round : goal.invariant-loop-round
invariant-loop-round l =
    (length l.marks.items ≡ length l.graph)
    × ((n : ℕ) → is_marked l.marks.items n ≡ goes_by (graph_in l.graph) l._round n l.target)
