use Rattle.std.proofs.Common.{◌≡◌, ◌++◌, map, length}
use Rattle.std.specs.Vec.Iter.{into_iter_items, into_iter_len}
use Rattle.sdl_productions.specs.BodyViews.{marked_view}
use Rattle.sdl_productions.specs.Marks.{gathered}
use Rattle.sdl_productions.proofs.marked.gathered.Given as goal

abbrev pub invariant-rows : goal.invariant-rows
invariant-rows g l = (l.yielded ++ into_iter_items l.part-iterator ≡ into_iter_items l.initial.part-iterator)
    × (marked_view (λ v. map g.T.Part.view v.items) l.found ≡ gathered (map (marked_view g.T.Part.view) l.yielded))
    × (into_iter_len l.part-iterator ≡ length (into_iter_items l.part-iterator))
