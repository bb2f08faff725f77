-- The first item of a port that isn't saved.
use Rattle.std.proofs.Common.{◌≡◌, ◌∙◌, ℕ, zero, suc, ◌+◌, ◌<◌, Bool, true, false, List, [], ◌∷◌, length, drop, Option, None, Some, arith, refl, ap}
use Rattle.std.specs.Prelude.{slice_get}
use Rattle.std.proofs.lemmas.List.{at_drop_more}
use Rattle.std.proofs.lemmas.Option.{get_or_from_slice_get, slice_get_within}
use Rattle.input_port.specs.Queue.{first_unsaved}
use Rattle.input_port.specs.declared.queue.Item.{Item}

at_place : (f : Item → Bool) (xs : List Item) (k : ℕ) (x : Item) → slice_get xs k ≡ Some x
    → first_unsaved f (drop k xs) ≡ first_unsaved f (x ∷ drop (k + 1) xs)
at_place f xs k x there =
    at_drop_more (first_unsaved f) xs k x (slice_get_within xs k x there)
    ∙ ap (λ y. first_unsaved f (y ∷ drop (k + 1) xs)) (get_or_from_slice_get xs k x x there)

-- the item at this place is saved
pub saved_on : (f : Item → Bool) (xs : List Item) (k : ℕ) (x : Item) → slice_get xs k ≡ Some x → f x ≡ true
    → first_unsaved f (drop k xs) ≡ first_unsaved f (drop (k + 1) xs)
saved_on f xs k x there saved = at_place f xs k x there ∙ rw saved refl

-- the item at this place isn't saved
pub unsaved_here : (f : Item → Bool) (xs : List Item) (k : ℕ) (x : Item) → slice_get xs k ≡ Some x → f x ≡ false
    → first_unsaved f (drop k xs) ≡ Some x
unsaved_here f xs k x there unsaved = at_place f xs k x there ∙ rw unsaved refl

-- there is an item at each place
pub no_past : (xs : List Item) (k : ℕ) → k < length xs → slice_get xs k ≡ None → ⊥
no_past [] k lt none = omega (arith, lt)
no_past (x ∷ xs) zero lt none = cc
no_past (x ∷ xs) (suc k) lt none = no_past xs k (omega (arith, lt)) none
