use Rattle.std.proofs.lemmas.Result.{IfOk-weaker}
use Rattle.script_ends.specs.TermAnswers.{command_of}
use Rattle.script_ends.specs.GroupAnswers.{IsTold}
use Rattle.script_ends.proofs.CallAnswers.{told_taken, told_refused}
use Rattle.script_ends.proofs.calls.tell.Goals as goal

pub returns-in-Ok : goal.returns-in-Ok
returns-in-Ok c =
    IfOk-weaker c.done.result _ (λ v. IsTold (command_of c.args.order) c.args.link c.args.group.now v.items c.command.new.self)
    (λ v is. told_taken c.command_of.result (command_of c.args.order) c.args.link _ _ v.items c.command_of.ensures is c.in-Ok.ensures.ok) c.done.ensures

pub returns-in-Err : goal.returns-in-Err
returns-in-Err c =
    IfOk-weaker c.barred.result _ (λ v. IsTold (command_of c.args.order) c.args.link c.args.group.now v.items c.command.new.self)
    (λ v is.
    told_refused c.command_of.result (command_of c.args.order) c.args.link _ _ v.items c.in-Err.error c.command_of.ensures is c.in-Err.ensures.err)
    c.barred.ensures
