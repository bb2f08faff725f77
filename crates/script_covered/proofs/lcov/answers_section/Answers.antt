use Rattle.std.specs.Prelude.{slice_index}
use Rattle.std.proofs.lemmas.List.{get_or_default}
use Rattle.script_covered.specs.Lcov.{mark_line, mark_times}
use Rattle.script_covered.proofs.Printing.{items_more}
use Rattle.script_covered.proofs.lcov.answers_section.Goals as goal

pub loop-mark-preserved : goal.loop-mark-preserved
loop-mark-preserved c = λ text are.
    let f = slice_index c.args.counts.now.begun.times.items in
    let g = slice_index c.args.counts.now.others.times.items in
    items_more (mark_line text f g) (mark_times f g) c.args.marks.now c.loop-mark.mark-index _ c.loop-mark.section c.push_mark.new.section
    c.loop-mark-test.true (get_or_default c.args.marks.now c.loop-mark.mark-index _ _ c.loop-mark-test.true) (c.loop-mark.invariant text are)
    (λ said ns h. c.in_ok-push_mark.ensures text said ns are h)
