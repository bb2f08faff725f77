use Rattle.std.proofs.Common.{refl}
use Rattle.std.proofs.lemmas.Result.{IfOk-weaker}
use Rattle.line_play.proofs.link.end.LinkEndLineTerminal.tick.Goals as goal

pub returns : goal.returns
returns c = IfOk-weaker c.pass.result _ _ (λ x h. (h, refl)) c.pass.ensures
