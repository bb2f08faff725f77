use Rattle.std.proofs.lemmas.Result.{IfOk-weaker}
use Rattle.script_ends.specs.GroupAnswers.{IsBoundTo}
use Rattle.script_ends.proofs.CallAnswers.{bound_ok, bound_why}
use Rattle.script_ends.proofs.calls.bind.Goals as goal

pub returns-in-Ok : goal.returns-in-Ok
returns-in-Ok c =
    IfOk-weaker c.done.result _ (λ v. IsBoundTo c.args.octets.now c.args.link c.args.group.now v.items c.send_by.new.self)
    (λ v is. bound_ok c.args.octets.now c.args.link _ _ c.in-Some.msu v.items c.in-Some.ensures.some is c.in-Ok.ensures.fault c.in-Ok.ensures.ok) c.done.ensures

pub returns-in-Err : goal.returns-in-Err
returns-in-Err c =
    IfOk-weaker c.refused.result _ (λ v. IsBoundTo c.args.octets.now c.args.link c.args.group.now v.items c.send_by.new.self)
    (λ v is. bound_why c.args.octets.now c.args.link _ _ c.in-Some.msu c.in-Err.error v.items c.in-Some.ensures.some is c.in-Err.ensures.fault c.in-Err.ensures.err)
    c.refused.ensures
