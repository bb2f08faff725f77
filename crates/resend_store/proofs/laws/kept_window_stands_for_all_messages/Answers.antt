use Rattle.resend_store.proofs.Stands.{kept_is_enough}
use Rattle.resend_store.proofs.laws.kept_window_stands_for_all_messages.Goals as goal

pub returns : goal.returns
returns c = kept_is_enough
