use Rattle.resend_store.proofs.InTurn.{accepts_in_turn}
use Rattle.resend_store.proofs.laws.accepted_units_are_in_turn.Goals as goal

pub returns : goal.returns
returns c = accepts_in_turn
