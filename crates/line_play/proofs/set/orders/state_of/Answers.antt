use Rattle.std.proofs.Common.{ap}
use Rattle.line_play.specs.SetOrders.{state}
use Rattle.line_play.proofs.set.orders.state_of.Goals as goal

pub returns : goal.returns
returns c = ap state c.in_ok-process.ensures
