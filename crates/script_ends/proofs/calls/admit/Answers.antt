use Rattle.std.proofs.Common.{refl}
use Rattle.std.proofs.lemmas.Result.{IfOk-weaker}
use Rattle.script_ends.specs.GroupAnswers.{Admits}
use Rattle.script_ends.proofs.CallAnswers.{admits_ok, admits_nowhere}
use Rattle.script_ends.proofs.calls.admit.Goals as goal

pub returns-in-Ok : goal.returns-in-Ok
returns-in-Ok c =
    IfOk-weaker c.done.result _ (λ v. Admits c.args.way c.args.link c.args.group.now v.items c.admit.new.self)
    (λ v is. admits_ok c.in-Ok.field-0 _ c.args.way c.args.link c.args.group.now c.admit.new.self v.items c.in-Ok.ensures.fault is c.in-Ok.ensures.ok) c.done.ensures

pub returns-in-Err : goal.returns-in-Err
returns-in-Err c =
    IfOk-weaker c.no_link.result _ (λ v. Admits c.args.way c.args.link c.args.group.now v.items c.admit.new.self)
    (λ v is. admits_nowhere _ c.in-Err.field-0 c.args.way c.args.link c.args.group.now c.admit.new.self v.items refl c.in-Err.ensures.fault is c.in-Err.ensures.err) c.no_link.ensures
