-- The remaining orders are unchanged.
use Rattle.line_filter.specs.Orders.{Stays}
use Rattle.line_filter.specs.Reading.{left_of}
use Rattle.line_filter.proofs.stream.LineOrdersOrders.next.Given as goal

abbrev pub invariant-loop-octet : goal.invariant-loop-octet
invariant-loop-octet g l = Stays (left_of g.R.Read.remaining l.fn.self) (left_of g.R.Read.remaining l.self)
