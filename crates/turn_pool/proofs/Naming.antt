-- A turn that began is out, and has a name.
use Rattle.std.proofs.Common.{◌≡◌, ℕ, Option, Some, None, refl, sym, ap, ◌∙◌, subst}
use Rattle.std.specs.Prelude.{IsSome, Ok, Err, option_map, slice_get}
use Rattle.std.proofs.lemmas.Bool.{false≢true}
use Rattle.std.proofs.lemmas.Option.{none-some}
use Rattle.turn_machine.specs.Rooms.{Lying}
use Rattle.turn_machine.specs.Turn.{Turn}
use Rattle.actor_machine.specs.declared.name.ActorName.{ActorName}
use Rattle.actor_machine.specs.Core.{names_in}
use Rattle.actor_machine.specs.Ledger.{Ledger, state_of, turn_at, turn_out}
use Rattle.actor_machine.specs.declared.actor.Actor.{Actor}
use Rattle.actor_machine.proofs.FitsLists.{name_there}
use Rattle.actor_book.proofs.Ending.{own_actor}
use Rattle.turn_pool.specs.Moves.{Moves}
use Rattle.turn_pool.specs.Turns.{told_of, told_there, told, NamesBegun, IsNamed}
use Rattle.turn_pool.specs.declared.gate.JobName.{JobName}
use Rattle.turn_pool.specs.declared.moves.Move.{Move}
use Rattle.turn_pool.specs.declared.moves.Move.TheVariants as move
use Rattle.turn_pool.specs.declared.moves.Moved.{Moved}
use Rattle.turn_pool.specs.declared.moves.Moved.TheVariants as moved

-- an actor that has a turn out exists
actor_there : (b : Ledger) (n : ℕ) (t : Turn) (o : Option Actor) → slice_get (state_of b).actors n ≡ o → turn_at b.set n o ≡ Some t
    → (a : Actor) × (slice_get (state_of b).actors n ≡ Some a)
actor_there b n t None at h = absurd (none-some t h)
actor_there b n t (Some a) at h = (a, at)

is_told : (link : ℕ) (b : Ledger) (t : Turn) (x : ActorName) → slice_get (names_in (state_of b).actors) t.actor ≡ Some x → IsSome (told_of link b t)
is_told link b t x h =
    subst (λ (o : Option ActorName). IsSome (option_map (λ (x : ActorName). let j : JobName = record { link = link; actor = x; turn = t.turn } in j) o)) (sym h) refl

named : (link : ℕ) (b : Ledger) (n : ℕ) (t : Turn) → turn_out b n ≡ Some t → IsSome (told_of link b t)
unfolding turn_out
named link b n t h =
    let there = actor_there b n t (slice_get (state_of b).actors n) refl h in
    is_told link b t there.0.name
    (ap (λ (k : ℕ). slice_get (names_in (state_of b).actors) k) (own_actor b n t t h refl) ∙ name_there (state_of b).actors n there.0 there.1)

pub begun_named : (link : ℕ) (b : Ledger) (r : Lying) (m : Moved) → NamesBegun b r m (told link b r m)
begun_named link b r (moved.Begun (Ok x)) = λ ok n t lies out. subst (λ (l : Lying). IsSome (told_there link b l)) (sym lies) (named link b n t out)
begun_named link b r (moved.Begun (Err x)) = λ ok. absurd (false≢true ok)
begun_named link b r (moved.Skipped answer) = tt
begun_named link b r (moved.Finished answer) = tt
begun_named link b r (moved.Turned turns) = tt

-- ---- a step

pub step_named : (b c : Ledger) (r l : Lying) (s : Move) (m : Moved) (name : Option JobName) → Moves b r s m c l → NamesBegun c l m name → IsNamed m name
step_named b c r l (move.Begin n) (moved.Begun (Ok x)) name moves begun = λ ok. begun ok n moves.began.turn moves.began.lies moves.began.out
step_named b c r l (move.Begin n) (moved.Begun (Err x)) name moves begun = λ ok. absurd (false≢true ok)
step_named b c r l (move.Skip n) (moved.Begun answer) name moves begun = absurd moves
step_named b c r l move.Finish (moved.Begun answer) name moves begun = absurd moves
step_named b c r l (move.Turns most) (moved.Begun answer) name moves begun = absurd moves
step_named b c r l s (moved.Skipped answer) name moves begun = tt
step_named b c r l s (moved.Finished answer) name moves begun = tt
step_named b c r l s (moved.Turned turns) name moves begun = tt
