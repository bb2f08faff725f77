use Rattle.link_term.proofs.Losing.{stays_kept}
use Rattle.link_term.proofs.laws.unacknowledged_messages_stay.Goals as goal

pub returns : goal.returns
returns c = stays_kept c.unacknowledged_messages_stay.ensures
