-- Whether a signal can be offered, from the test of the routes and the test of the sorts.
use Rattle.std.proofs.Common.{◌≡◌, ℕ, ◌&&◌, Bool, true, false, List, length, map, refl}
use Rattle.std.specs.Prelude.{nat_lt, slice_get}
use Rattle.std.specs.List.{list_any}
use Rattle.turn_code.specs.Values.{sort_of}
use Rattle.turn_code.specs.Transitions.{parameters_of}
use Rattle.turn_code.specs.declared.value.Value.{Value}
use Rattle.turn_code.specs.declared.numbers.SignalNumber.{SignalNumber}
use Rattle.turn_code.specs.declared.draft.Draft.{Draft}
use Rattle.actor_machine.specs.Refusals.{is_offered, offers, same_sorts}

-- if a route brings the signal, it is offered exactly if it is declared with these sorts
pub offered_both : (d : Draft) (n : ℕ) (s : SignalNumber) (vs : List Value) (b : Bool) → list_any (offers n s) d.routes ≡ true
    → b ≡ (nat_lt s.0 (length d.signals) && same_sorts (map sort_of vs) (parameters_of (slice_get d.signals s.0)))
    → b ≡ is_offered d n s vs
unfolding is_offered
offered_both d n s vs b e f = rw (e, f) refl

-- if no route brings the signal, it isn't offered
pub offered_not : (d : Draft) (n : ℕ) (s : SignalNumber) (vs : List Value) → list_any (offers n s) d.routes ≡ false
    → false ≡ is_offered d n s vs
unfolding is_offered
offered_not d n s vs e = rw e refl
