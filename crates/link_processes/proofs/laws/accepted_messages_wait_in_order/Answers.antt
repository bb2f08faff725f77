use Rattle.link_processes.proofs.Keeping.{messages_law}
use Rattle.link_processes.proofs.laws.accepted_messages_wait_in_order.Goals as goal

pub returns : goal.returns
returns c = messages_law c.accepted_messages_are_handed_out_in_order.ensures
