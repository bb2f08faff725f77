use Rattle.std.proofs.Common.{◌≡◌, ℕ, ◌<◌, ◌++◌, get_or, Some}
use Rattle.std.specs.Prelude.{slice_get, option_to_list}
use Rattle.turn_code.specs.declared.draft.PlaceFacts.{PlaceFacts}
use Rattle.turn_rules.proofs.places.places_have_shape.Given as goal

abbrev pub invariant-loop-next : goal.invariant-loop-next
invariant-loop-next l =
    (n : ℕ) → n < l.next-index → (g : PlaceFacts) → slice_get l.facts (get_or l.nexts n 0) ≡ Some g → g.shape ≡ option_to_list l.given ++ l.rest
