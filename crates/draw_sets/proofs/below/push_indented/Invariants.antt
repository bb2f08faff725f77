use Rattle.std.proofs.Common.{◌≡◌, ◌++◌, true, drop}
use Rattle.draw_sets.specs.Noting.{indented}
use Rattle.draw_sets.proofs.below.push_indented.Given as goal

abbrev pub invariant-loop-byte : goal.invariant-loop-byte
invariant-loop-byte l = l.text.items ++ indented l.begins (drop l.byte-index l.lines) ≡ l.initial.text.items ++ indented true l.lines
