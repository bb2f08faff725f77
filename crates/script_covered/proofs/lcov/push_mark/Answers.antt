use Rattle.std.specs.Prelude.{slice_index}
use Rattle.std.proofs.lemmas.Result.{on_ok_weaker}
use Rattle.script_covered.proofs.Printing.{answer_pushed, else_pushed}
use Rattle.script_covered.proofs.lcov.push_mark.Goals as goal

pub returns-in-Answer : goal.returns-in-Answer
returns-in-Answer c =
    on_ok_weaker c.push_answer.result
    (λ step text said ns are h.
    answer_pushed text (slice_index c.args.counts.now.begun.times.items) (slice_index c.args.counts.now.others.times.items) c.args.mark c.in-Answer.at c.in-Answer.decision c.in-Answer.number
    c.times.result said ns c.push_answer.new.section c.in-Answer.is c.times.ensures (step text said ns are h)) c.push_answer.ensures

pub returns-in-Else : goal.returns-in-Else
returns-in-Else c =
    on_ok_weaker c.push_answer-in-Else.result
    (λ step text said ns are h.
    else_pushed text (slice_index c.args.counts.now.begun.times.items) (slice_index c.args.counts.now.others.times.items) c.args.mark c.in-Else.decision c.in-Else.number
    c.others.result said ns c.push_answer-in-Else.new.section c.in-Else.is c.others.ensures (step text said ns are h)) c.push_answer-in-Else.ensures
