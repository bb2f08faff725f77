use Rattle.std.proofs.Common.{refl}
use Rattle.std.proofs.lemmas.Result.{IfOk-weaker}
use Rattle.line_play.proofs.link.end.LinkEndLineTerminal.obey.Goals as goal

pub returns : goal.returns
returns c = IfOk-weaker c.obey_order.result _ _ (λ x h. (h, refl)) c.obey_order.ensures
