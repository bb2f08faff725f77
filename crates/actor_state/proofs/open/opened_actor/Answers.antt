use Rattle.std.proofs.Common.{◌≤◌, List, length, sym, subst}
use Rattle.turn_code.specs.declared.draft.DraftVariable.{DraftVariable}
use Rattle.actor_state.proofs.open.opened_actor.Goals as goal

pub initial_values_of-requires : goal.initial_values_of-requires
initial_values_of-requires c = subst (λ (xs : List DraftVariable). length xs ≤ 32) (sym c.as_slice.ensures) c.requires.few.variables
