use Rattle.link_term.proofs.Delivering.{delivers}
use Rattle.link_term.proofs.laws.accepted_messages_are_delivered.Goals as goal

pub returns : goal.returns
returns c = delivers c.accepted_messages_wait_in_order.ensures
