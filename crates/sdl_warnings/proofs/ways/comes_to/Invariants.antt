use Rattle.std.proofs.Common.{◌&&◌, ◌≡◌}
use Rattle.sdl_warnings.specs.Marked.{is_marked}
use Rattle.sdl_warnings.specs.Reaches.{is_way_in}
use Rattle.sdl_warnings.specs.Ways.{upto}
use Rattle.std.specs.List.{list_any}
use Rattle.sdl_warnings.proofs.ways.comes_to.Given as goal

abbrev pub invariant-loop-last : goal.invariant-loop-last
invariant-loop-last l =
    l.any ≡ list_any (λ n. is_way_in l.ways.to.items l.number n && is_marked l.marks n) (upto l.last)
