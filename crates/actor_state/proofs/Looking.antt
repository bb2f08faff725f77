-- What an actor finds agrees with what it takes.
use Rattle.std.proofs.Common.{◌≡◌, ℕ, Bool, true, List, refl, sym, ap, rules}
use Rattle.std.specs.Prelude.{◌==◌, length, None, [], ◌∷◌}
use Rattle.turn_code.specs.declared.input.Place.TheVariants.{Start, State}
use Rattle.turn_code.specs.declared.draft.Draft.{Draft}
use Rattle.input_port.specs.Queue.{first_unsaved}
use Rattle.input_port.specs.declared.queue.Item.{Item}
use Rattle.actor_machine.specs.Looking.{found_at, found_item, is_saved, item_at, number_in}
use Rattle.actor_machine.specs.declared.found.Found.TheVariants.{Nothing}
use Rattle.actor_machine.specs.declared.actor.Standing.{Standing}
use Rattle.actor_machine.specs.declared.actor.Standing.TheVariants.{At, Stopped}
use Rattle.actor_state.specs.Saving.{number_with}

-- an empty port has no item that isn't saved
none_in : (saved : Item → Bool) (xs : List Item) → (length xs == 0) ≡ true → first_unsaved saved xs ≡ None
none_in saved [] h = refl
none_in saved (x ∷ xs) h = absurd (search rules)

-- an actor finds nothing in an empty port
pub nothing_in : (d : Draft) (n q : ℕ) (xs : List Item) → (length xs == 0) ≡ true → Nothing ≡ found_item d n q (first_unsaved (is_saved d n q) xs)
nothing_in d n q xs h = sym (ap (found_item d n q) (none_in (is_saved d n q) xs h))

-- the number of the item that is taken is the number of the input that is found
pub number_found : (d : Draft) (n : ℕ) (s : Standing) (xs : List Item) → number_with d n s (item_at d n s xs) ≡ number_in (found_at d n s xs)
number_found d n (At (State q)) xs = refl
number_found d n (At Start) xs = refl
number_found d n Stopped xs = refl
