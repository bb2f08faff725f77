use Rattle.std.proofs.lemmas.Result.{IfOk-weaker}
use Rattle.script_ends.specs.GroupAnswers.{IsSent}
use Rattle.script_ends.proofs.CallAnswers.{sent_ok, sent_why}
use Rattle.script_ends.proofs.calls.send.Goals as goal

pub returns-in-Ok : goal.returns-in-Ok
returns-in-Ok c =
    IfOk-weaker c.done.result _ (λ v. IsSent c.args.octets.now c.args.group.now v.items c.send.new.self)
    (λ v is. sent_ok c.args.octets.now _ _ c.in-Some.msu v.items c.in-Some.ensures.some is c.in-Ok.ensures.fault c.in-Ok.ensures.ok) c.done.ensures

pub returns-in-Err : goal.returns-in-Err
returns-in-Err c =
    IfOk-weaker c.refused.result _ (λ v. IsSent c.args.octets.now c.args.group.now v.items c.send.new.self)
    (λ v is. sent_why c.args.octets.now _ _ c.in-Some.msu c.in-Err.error v.items c.in-Some.ensures.some is c.in-Err.ensures.fault c.in-Err.ensures.err)
    c.refused.ensures
