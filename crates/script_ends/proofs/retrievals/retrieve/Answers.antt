use Rattle.std.proofs.lemmas.Result.{IfOk-weaker}
use Rattle.script_ends.specs.GroupAnswers.{Retrieves}
use Rattle.script_ends.proofs.RetrievalAnswers.{retrieved, unretrieved}
use Rattle.script_ends.proofs.retrievals.retrieve.Goals as goal

pub returns-in-Ok : goal.returns-in-Ok
returns-in-Ok c =
    IfOk-weaker c.count_line.result _ (λ v. Retrieves c.args.link c.args.group.now v.items c.retrieve.new.self)
    (λ v is. retrieved c.args.link _ _ _ v.items is c.in-Ok.ensures.count c.in-Ok.ensures.fault c.in-Ok.ensures.ok) c.count_line.ensures

pub returns-in-Err : goal.returns-in-Err
returns-in-Err c =
    IfOk-weaker c.unretrieved.result _ (λ v. Retrieves c.args.link c.args.group.now v.items c.retrieve.new.self)
    (λ v is. unretrieved c.args.link _ _ c.in-Err.error v.items is c.in-Err.ensures.fault c.in-Err.ensures.err) c.unretrieved.ensures
