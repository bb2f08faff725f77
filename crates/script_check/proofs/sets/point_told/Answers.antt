use Rattle.std.proofs.lemmas.Result.{IfOk-weaker}
use Rattle.script_check.proofs.sets.point_told.Goals as goal

pub returns : goal.returns
returns c =
    IfOk-weaker c.point_out.result _ _ (λ v h. record { told = c.in_ok-told.told; points = h; found = c.in_ok-told.ensures }) c.point_out.ensures
