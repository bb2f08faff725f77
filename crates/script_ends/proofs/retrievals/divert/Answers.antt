use Rattle.std.proofs.Common.{None, Some}
use Rattle.std.proofs.lemmas.Result.{IfOk-weaker}
use Rattle.script_ends.specs.GroupAnswers.{Diverts}
use Rattle.script_ends.proofs.RetrievalAnswers.{diverted}
use Rattle.script_ends.proofs.retrievals.divert.Goals as goal

pub returns-in-Ok : goal.returns-in-Ok
returns-in-Ok c =
    IfOk-weaker c.done.result _ (λ v. Diverts c.args.link c.args.group.now v.items c.divert.new.self)
    (λ v is. diverted c.args.link _ _ None v.items is c.in-Ok.ensures.fault c.in-Ok.ensures.set) c.done.ensures

pub returns-in-Err : goal.returns-in-Err
returns-in-Err c =
    IfOk-weaker c.refused.result _ (λ v. Diverts c.args.link c.args.group.now v.items c.divert.new.self)
    (λ v is. diverted c.args.link _ _ (Some c.in-Err.error) v.items is c.in-Err.ensures.fault c.in-Err.ensures.set) c.refused.ensures
