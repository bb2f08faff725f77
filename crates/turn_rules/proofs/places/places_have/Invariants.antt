use Rattle.std.proofs.Common.{◌≡◌, ℕ, ◌<◌, get_or, Some}
use Rattle.std.specs.Prelude.{slice_get}
use Rattle.turn_code.specs.Sets.{IsWithin}
use Rattle.turn_code.specs.declared.draft.PlaceFacts.{PlaceFacts}
use Rattle.turn_rules.proofs.places.places_have.Given as goal

abbrev pub invariant-loop-next : goal.invariant-loop-next
invariant-loop-next l =
    (n : ℕ) → n < l.next-index → (g : PlaceFacts) → slice_get l.facts (get_or l.nexts n 0) ≡ Some g → IsWithin g.set l.set
