use Rattle.std.proofs.Common.{◌≡◌, ◌++◌, drop, map}
use Rattle.draw_text.specs.Parts.{part_of}
use Rattle.draw_sets.specs.Drawing.{part_drawn}
use Rattle.draw_sets.proofs.layout.lay_out.Given as goal

abbrev pub invariant-loop-part : goal.invariant-loop-part
invariant-loop-part l =
    map part_drawn l.drawn.items ++ map part_of (drop l.part-index l.parts) ≡ map part_of l.parts
