use Rattle.std.proofs.Common.{refl}
use Rattle.std.proofs.lemmas.Result.{IfOk-weaker}
use Rattle.script_book.proofs.Saids.{line_said}
use Rattle.script_book.proofs.calls.skip.Goals as goal

pub returns-in-Ok-clause-line : goal.returns-in-Ok-clause-line
returns-in-Ok-clause-line c =
    IfOk-weaker c.skipped_line.result _ _
    (λ v h.
    line_said c.args.book.now c.skip.new.self c.set.result.now c.args.actor.name.process.0 _ _ _ v.items refl c.set.ensures c.in-Ok.ensures.book c.in-Ok.ensures.answer h)
    c.skipped_line.ensures
