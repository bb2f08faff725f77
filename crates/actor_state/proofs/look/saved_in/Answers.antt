use Rattle.actor_state.proofs.SmallSaves.{small_saves}
use Rattle.actor_state.proofs.look.saved_in.Goals as goal

pub saved_of-requires : goal.saved_of-requires
saved_of-requires c = rw c.saves.ensures (small_saves _ c.draft-valid.ensures.valid _ _)
