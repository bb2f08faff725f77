use Rattle.std.proofs.lemmas.Result.{IfOk-weaker}
use Rattle.script_ends.specs.GroupAnswers.{Passes}
use Rattle.script_ends.proofs.CallAnswers.{ticks_pass, ticks_wait}
use Rattle.script_ends.proofs.calls.tick.Goals as goal

pub returns-in-Ok : goal.returns-in-Ok
returns-in-Ok c =
    IfOk-weaker c.text_line.result _ (λ v. Passes c.args.ticks c.args.group.now v.items c.tick.new.self)
    (λ v is. ticks_pass c.args.ticks c.from.result _ _ v.items c.in-Ok.due c.from.ensures is c.in-Ok.ensures.due c.in-Ok.ensures.passes c.in-Ok.ensures.ok) c.text_line.ensures

pub returns-in-Err : goal.returns-in-Err
returns-in-Err c =
    IfOk-weaker c.held_up.result _ (λ v. Passes c.args.ticks c.args.group.now v.items c.tick.new.self)
    (λ v is. ticks_wait c.args.ticks c.from.result _ _ v.items c.in-Err.error c.from.ensures is c.in-Err.ensures.err) c.held_up.ensures
