use Rattle.std.proofs.Common.{drop}
use Rattle.draw_sets.specs.Noting.{IsBegun}
use Rattle.draw_sets.proofs.notes.lines_noted.Given as goal

abbrev pub invariant-loop-byte : goal.invariant-loop-byte
invariant-loop-byte l = IsBegun l.lines (drop l.byte-index l.lines) l.line.items l.text.items
