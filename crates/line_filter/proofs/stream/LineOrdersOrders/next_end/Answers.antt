use Rattle.line_filter.proofs.Leaving.{stays_same}
use Rattle.line_filter.proofs.stream.LineOrdersOrders.next_end.Goals as goal

pub returns-clause-none : goal.returns-clause-none
returns-clause-none g c = λ none. stays_same _
