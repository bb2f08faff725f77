use Rattle.std.proofs.lemmas.Result.{IfOk-weaker}
use Rattle.script_check.proofs.Long.{at_limit}
use Rattle.script_check.proofs.sets.point_in.Goals as goal

pub returns-then-kept-gt-MOST_BYTES : goal.returns-then-kept-gt-MOST_BYTES
returns-then-kept-gt-MOST_BYTES c = IfOk-weaker c.point_head.result _ _ (λ v h. at_limit _ _ _ c.if-kept-gt-MOST_BYTES.true h) c.point_head.ensures
