-- The items of a port without that of a timer.
use Rattle.std.proofs.Common.{◌≡◌, ℕ, Bool, true, false, List, [], ◌∷◌, refl}
use Rattle.input_port.specs.Queue.{is_of_timer, has_timer, without_timer}
use Rattle.input_port.specs.declared.queue.Item.{Item}

kept : (n : ℕ) (x : Item) (xs : List Item) (b : Bool) → is_of_timer n x ≡ b → has_timer (without_timer xs n) n ≡ false
    → has_timer (without_timer (x ∷ xs) n) n ≡ false
kept n x xs true e h = rw e h
kept n x xs false e h = rw e (rw e h)

pub none_left : (n : ℕ) (xs : List Item) → has_timer (without_timer xs n) n ≡ false
none_left n [] = refl
none_left n (x ∷ xs) = kept n x xs (is_of_timer n x) refl (none_left n xs)
