use Rattle.std.proofs.Common.{◌≡◌, drop, map}
use Rattle.std.specs.List.{list_all}
use Rattle.draw_sets.specs.Drawing.{are_apart, place_drawn}
use Rattle.draw_sets.proofs.apart.is_apart_from.Given as goal

abbrev pub invariant-loop-other : goal.invariant-loop-other
invariant-loop-other l =
    list_all (are_apart l.one) (map place_drawn l.others) ≡ list_all (are_apart l.one) (map place_drawn (drop l.other-index l.others))
