-- The lines written so far.
use Rattle.std.proofs.Common.{ℕ, List, take}
use Rattle.std.specs.Prelude.{slice_index}
use Rattle.std.specs.List.{flat_map}
use Rattle.script_covered.specs.Lcov.{AreLines, mark_line, mark_times, IsSection}
use Rattle.script_covered.proofs.lcov.answers_section.Given as goal

abbrev pub invariant-loop-mark : goal.invariant-loop-mark
invariant-loop-mark l =
    (text : List ℕ) → AreLines text l.lines
    → IsSection (flat_map (mark_line text (slice_index l.counts.begun.times.items) (slice_index l.counts.others.times.items)) (take l.mark-index l.marks))
    (flat_map (mark_times (slice_index l.counts.begun.times.items) (slice_index l.counts.others.times.items)) (take l.mark-index l.marks)) l.section
