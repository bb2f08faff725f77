use Rattle.std.proofs.Common.{◌+◌, length, refl, arith}
use Rattle.std.specs.Prelude.{slice_index}
use Rattle.script_covered.specs.Lcov.{line_at}
use Rattle.script_covered.proofs.Printing.{all_seen}
use Rattle.script_covered.proofs.lcov.line_counts.Goals as goal

pub returns : goal.returns
returns c = λ text are.
    all_seen text (slice_index c.args.counts.now.begun.times.items) c.args.marks.now c.loop-mark.mark-index (line_at text (length text) + 1) c.loop-mark.seen.items (omega arith) refl
    (c.loop-mark.invariant text are)
