use Rattle.std.proofs.Common.{◌&&◌, ◌≡◌}
use Rattle.sdl_warnings.specs.Marked.{is_marked}
use Rattle.sdl_warnings.specs.Reaches.{is_way_in}
use Rattle.sdl_warnings.specs.Ways.{upto}
use Rattle.std.specs.List.{list_any}
use Rattle.sdl_warnings.proofs.ways.is_entered.Given as goal

abbrev pub invariant-loop-first : goal.invariant-loop-first
invariant-loop-first l =
    l.any ≡ list_any (λ s. is_marked l.ways.first.items s && is_way_in l.ways.to.items s l.number) (upto l.first)
