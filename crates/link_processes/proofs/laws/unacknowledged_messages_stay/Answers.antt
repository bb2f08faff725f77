use Rattle.link_processes.proofs.Keeping.{kept_law}
use Rattle.link_processes.proofs.laws.unacknowledged_messages_stay.Goals as goal

pub returns : goal.returns
returns c = kept_law c.unacknowledged_messages_are_kept.ensures
