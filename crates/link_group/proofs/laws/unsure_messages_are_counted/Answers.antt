use Rattle.link_group.proofs.Counting.{unsure_are_counted}
use Rattle.link_group.proofs.laws.unsure_messages_are_counted.Goals as goal

pub returns : goal.returns
returns c = unsure_are_counted
