use Rattle.std.proofs.Common.{refl, ◌∙◌, ap₂}
use Rattle.std.proofs.lemmas.Result.{IfOk-weaker}
use Rattle.script_lines.specs.Replies.{begun_text}
use Rattle.script_book.proofs.Saids.{line_said}
use Rattle.script_book.proofs.calls.begin.Goals as goal

pub returns-in-Ok-clause-line : goal.returns-in-Ok-clause-line
returns-in-Ok-clause-line c =
    IfOk-weaker c.begun_line.result _ _
    (λ v h.
    line_said c.args.book.now c.begin.new.self c.set.result.now c.args.actor.name.process.0 _ _ _ v.items refl c.set.ensures c.in-Ok.ensures.book c.in-Ok.ensures.answer
    (h ∙ ap₂ (λ s n. begun_text c.set.result.now c.args.actor.name.process.0 s n) c.place.ensures c.input_number.ensures))
    c.begun_line.ensures
