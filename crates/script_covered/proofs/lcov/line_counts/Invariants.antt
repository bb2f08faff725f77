-- The marks seen so far.
use Rattle.std.proofs.Common.{ℕ, List, take, ◌+◌, length}
use Rattle.std.specs.Prelude.{slice_index}
use Rattle.script_covered.specs.Lcov.{AreLines, line_at}
use Rattle.script_covered.proofs.Printing.{AreSeen}
use Rattle.script_covered.proofs.lcov.line_counts.Given as goal

abbrev pub invariant-loop-mark : goal.invariant-loop-mark
invariant-loop-mark l =
    (text : List ℕ) → AreLines text l.lines
    → AreSeen text (slice_index l.counts.begun.times.items) (take l.mark-index l.marks) (line_at text (length text) + 1) l.seen.items
