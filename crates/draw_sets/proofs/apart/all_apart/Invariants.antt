use Rattle.std.proofs.Common.{◌≡◌, drop, map}
use Rattle.draw_sets.specs.Drawing.{all_apart, place_drawn}
use Rattle.draw_sets.proofs.apart.all_apart.Given as goal

abbrev pub invariant-loop-index : goal.invariant-loop-index
invariant-loop-index l =
    all_apart (map place_drawn l.drawn) ≡ all_apart (map place_drawn (drop l.index l.drawn))
