use Rattle.std.proofs.Common.{arith}
use Rattle.std.proofs.lemmas.Result.{IfOk-weaker}
use Rattle.line_streams.specs.Departing.{alone, with_loss}
use Rattle.line_streams.proofs.outlet.to_go.Goals as goal

pub returns-then-lost-eq0 : goal.returns-then-lost-eq0
returns-then-lost-eq0 c = alone c.if-lost-eq0.true c.in_ok-from_slice.ensures.items

pub returns-in-Some : goal.returns-in-Some
returns-in-Some c = IfOk-weaker c.loss_told.result _ _ (λ t h. with_loss (omega (arith, c.if-lost-eq0.false)) h) c.loss_told.ensures
