use Rattle.std.proofs.Common.{refl}
use Rattle.std.proofs.lemmas.Result.{IfOk-weaker}
use Rattle.line_play.proofs.link.end.LinkEndLineTerminal.line_in.Goals as goal

pub returns : goal.returns
returns c = IfOk-weaker c.hear.result _ _ (λ x h. (h, refl)) c.hear.ensures
