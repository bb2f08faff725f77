use Rattle.std.proofs.lemmas.Result.{IfOk-weaker}
use Rattle.script_ends.specs.GroupAnswers.{Rebalances}
use Rattle.script_ends.proofs.CallAnswers.{rebalanced_ok, rebalanced_why}
use Rattle.script_ends.proofs.calls.rebalance.Goals as goal

pub returns-in-Ok : goal.returns-in-Ok
returns-in-Ok c =
    IfOk-weaker c.done.result _ (λ v. Rebalances c.args.group.now v.items c.rebalance.new.self)
    (λ v is. rebalanced_ok _ _ v.items is c.in-Ok.ensures.fault c.in-Ok.ensures.ok) c.done.ensures

pub returns-in-Err : goal.returns-in-Err
returns-in-Err c =
    IfOk-weaker c.refused.result _ (λ v. Rebalances c.args.group.now v.items c.rebalance.new.self)
    (λ v is. rebalanced_why _ _ c.in-Err.error v.items is c.in-Err.ensures.fault c.in-Err.ensures.err) c.refused.ensures
