use Rattle.std.proofs.Common.{◌≡◌, ◌++◌, drop, map}
use Rattle.std.specs.List.{flat_map}
use Rattle.draw_sets.specs.Drawing.{drawn_of, drawn_text}
use Rattle.draw_sets.proofs.svg.push_parts.Given as goal

abbrev pub invariant-loop-one : goal.invariant-loop-one
invariant-loop-one l =
    l.text.items ++ flat_map (drawn_text) (map drawn_of (drop l.one-index l.drawn)) ≡ l.initial.text.items ++ flat_map (drawn_text) (map drawn_of l.drawn)
