use Rattle.std.specs.Prelude.{All}
use Rattle.draw_sets.specs.Noting.{IsInLine}
use Rattle.draw_sets.proofs.below.push_name.Given as goal

abbrev pub invariant-loop-byte : goal.invariant-loop-byte
invariant-loop-byte l = All IsInLine l.initial.text.items → All IsInLine l.text.items
