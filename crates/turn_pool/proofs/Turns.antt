-- Actors that can do nothing.
use Rattle.std.proofs.Common.{◌≡◌, ℕ, ◌<◌, ◌≤◌, nat_lt, Bool, true, false, length, None, refl, arith}
use Rattle.std.proofs.lemmas.Option.{slice_get_past}
use borrow.Author.Tests.{ltb-false, ltb-true}
use Rattle.actor_machine.specs.Ledger.{Ledger, state_of}
use Rattle.actor_machine.specs.Refusals.{refuses}
use Rattle.turn_pool.specs.Turns.{move_of}

-- an actor that doesn't exist does nothing
past : (b : Ledger) (n : ℕ) → length (state_of b).actors ≤ n → move_of b n ≡ None
unfolding refuses
past b n many = rw (slice_get_past (state_of b).actors n many) refl

at : (b : Ledger) (m n : ℕ) (t : Bool) → nat_lt n m ≡ t → ((k : ℕ) → k < m → move_of b k ≡ None) → length (state_of b).actors ≤ m → move_of b n ≡ None
at b m n true is first few = first n (ltb-true n m is)
at b m n false is first few = let from : m ≤ n = ltb-false n m is in past b n (omega (arith, few, from))

-- if none of the first m actors can do anything, and there are no more, no actor can
pub all_of : (b : Ledger) (m : ℕ) → ((n : ℕ) → n < m → move_of b n ≡ None) → length (state_of b).actors ≤ m → (n : ℕ) → move_of b n ≡ None
all_of b m first few n = at b m n (nat_lt n m) refl first few
