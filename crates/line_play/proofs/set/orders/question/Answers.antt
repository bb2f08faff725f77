use Rattle.std.proofs.Common.{Some, ap}
use Rattle.line_play.proofs.set.orders.question.Goals as goal

pub returns-in_ok-order-in-State : goal.returns-in_ok-order-in-State
returns-in_ok-order-in-State c = rw c.in-State.is (ap (λ o. Some o) c.in_ok-order-in-State.ensures)

pub returns-in_ok-order-in-Value : goal.returns-in_ok-order-in-Value
returns-in_ok-order-in-Value c = rw c.in-Value.is (ap (λ o. Some o) c.in_ok-order-in-Value.ensures)
