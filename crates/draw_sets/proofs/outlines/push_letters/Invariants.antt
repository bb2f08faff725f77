use Rattle.std.proofs.Common.{◌≡◌, ◌++◌, drop}
use Rattle.std.specs.List.{flat_map}
use Rattle.draw_sets.specs.Outlines.{letter}
use Rattle.draw_sets.proofs.outlines.push_letters.Given as goal

abbrev pub invariant-loop-byte : goal.invariant-loop-byte
invariant-loop-byte l =
    l.text.items ++ flat_map (letter l.middle) (drop l.byte-index l.bytes) ≡ l.initial.text.items ++ flat_map (letter l.middle) (l.bytes)
