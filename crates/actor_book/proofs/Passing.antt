-- What follows if a link doesn't refuse an event.
use Rattle.std.proofs.Common.{◌≡◌, ℕ, ◌+◌, ◌^◌, ◌≤◌, ◌<◌, true, false, not, ◌==◌, if◌then◌else◌, List, [], ◌∷◌, length, Option, Some, None, refl, sym, ap, ◌∙◌, arith}
use Rattle.std.specs.Prelude.{nat_lt, nat_le, slice_get, option_map}
use Rattle.std.proofs.lemmas.Option.{slice_get_within}
use Rattle.turn_code.specs.declared.draft.Draft.{Draft}
use Rattle.turn_code.specs.declared.draft.Trigger.{Trigger}
use Rattle.turn_code.specs.declared.input.Place.TheVariants.{Start, State}
use Rattle.input_port.specs.Queue.{first_unsaved}
use Rattle.input_port.specs.declared.queue.Item.{Item}
use Rattle.actor_state.specs.Saving.{skipped_by}
use Rattle.actor_machine.specs.Core.{Core, is_out}
use Rattle.actor_machine.specs.Looking.{looks, is_saved, trigger_of, found_at, found_item, item_at}
use Rattle.actor_machine.specs.Refusals.{refuses, of_actor, first_of, begin_rows, skip_rows, advance_rows, is_nothing, is_ignored, is_counted_out}
use Rattle.actor_machine.specs.Step.{skip_reply, skip_reply_of, take_reply}
use Rattle.actor_machine.specs.declared.actor.Actor.{Actor}
use Rattle.actor_machine.specs.declared.actor.Standing.{Standing}
use Rattle.actor_machine.specs.declared.actor.Standing.TheVariants.{At, Stopped as HasStopped}
use Rattle.actor_machine.specs.declared.event.Event.TheVariants.{Begin, Skip, Advance, TakeEnv}
use Rattle.actor_machine.specs.declared.reply.Emitted.{Emitted}
use Rattle.actor_machine.specs.declared.reply.Refusal.{Refusal}
use Rattle.actor_machine.specs.declared.reply.Refusal.TheVariants as refusal
use Rattle.actor_machine.specs.declared.reply.Reply.TheVariants as reply
use Rattle.std.proofs.lemmas.Bool.{ltb-false as at_most, not-false as not_true}
use Rattle.plain_laws.proofs.Options.{row_passes}

below : (m n : ℕ) → nat_le m n ≡ false → n < m
below m n h = grind arith

-- ---- ticks

pub record MayPass (w : Core) (k : ℕ) : Type 0 where
  pub near : k ≤ 65535
  pub clock : w.timers.clock + k ≤ 2 ^ 62

pub may_pass : (d : Draft) (w : Core) (k : ℕ) → refuses d w (Advance k) ≡ None → MayPass w k
unfolding refuses advance_rows
may_pass d w k h =
    let first : (nat_lt 65535 k ≡ false) × (first_of ((nat_lt (2 ^ 62) (w.timers.clock + k), refusal.ClockFull) ∷ []) ≡ None) =
    row_passes (nat_lt 65535 k) refusal.TooFar (first_of ((nat_lt (2 ^ 62) (w.timers.clock + k), refusal.ClockFull) ∷ [])) h in
    let second : (nat_lt (2 ^ 62) (w.timers.clock + k) ≡ false) × (first_of [] ≡ None) =
    row_passes (nat_lt (2 ^ 62) (w.timers.clock + k)) refusal.ClockFull (first_of []) first.1 in
    record { near = at_most 65535 k first.0; clock = at_most (2 ^ 62) (w.timers.clock + k) second.0 }

-- ---- the environment

empty_passes : (xs : List Emitted) → (if length xs == 0 then Some refusal.Empty else None) ≡ None → xs ≡ [] → ⊥
empty_passes [] h e = absurd (cc)
empty_passes (x ∷ xs) h e = absurd (cc)

pub something_waits : (d : Draft) (w : Core) → refuses d w TakeEnv ≡ None → w.ring.items ≡ [] → ⊥
unfolding refuses
something_waits d w h e = empty_passes w.ring.items h e

pub takes_first : (x : Emitted) (xs ys : List Emitted) → xs ≡ x ∷ ys → take_reply xs ≡ reply.Taken x
takes_first x xs ys e = ap take_reply e

-- ---- actors

pub record IsThere (actors : List Actor) (n : ℕ) (f : Actor → Option Refusal) : Type 0 where
  pub actor : Actor
  pub there : slice_get actors n ≡ Some actor
  pub passes : f actor ≡ None

actor_passes : (f : Actor → Option Refusal) (o : Option Actor) → of_actor f o ≡ None → (a : Actor) × (o ≡ Some a) × (f a ≡ None)
actor_passes f None h = absurd (cc)
actor_passes f (Some a) h = (a, refl, h)

pub is_there : (actors : List Actor) (n : ℕ) (f : Actor → Option Refusal) → of_actor f (slice_get actors n) ≡ None → IsThere actors n f
is_there actors n f h =
    let found = actor_passes f (slice_get actors n) h in
    record { actor = found.0; there = found.1; passes = found.2 }

-- a turn may begin
pub record MayBegin (d : Draft) (w : Core) (n : ℕ) : Type 0 where
  pub actor : Actor
  pub there : slice_get w.actors n ≡ Some actor
  pub inside : n < length w.actors
  pub something : is_nothing (looks d actor) ≡ false
  pub turns : w.turns < 2 ^ 40

begin_from : (d : Draft) (w : Core) (n : ℕ) (a : Actor) → slice_get w.actors n ≡ Some a → first_of (begin_rows d w.turns a) ≡ None → MayBegin d w n
unfolding begin_rows
begin_from d w n a e h =
    let none : Option Refusal = first_of [] in
    let fourth : Option Refusal = if is_counted_out w.turns then Some refusal.CountFull else none in
    let third : Option Refusal = if is_ignored (looks d a) then Some refusal.SkipFirst else fourth in
    let second : Option Refusal = if is_nothing (looks d a) then Some refusal.Nothing else third in
    let one : (is_out a ≡ false) × (second ≡ None) = row_passes (is_out a) refusal.Busy second h in
    let two : (is_nothing (looks d a) ≡ false) × (third ≡ None) = row_passes (is_nothing (looks d a)) refusal.Nothing third one.1 in
    let three : (is_ignored (looks d a) ≡ false) × (fourth ≡ None) = row_passes (is_ignored (looks d a)) refusal.SkipFirst fourth two.1 in
    let four : (is_counted_out w.turns ≡ false) × (none ≡ None) = row_passes (is_counted_out w.turns) refusal.CountFull none three.1 in
    record { actor = a; there = e; inside = slice_get_within w.actors n a e; something = two.0; turns = below (2 ^ 40) w.turns four.0 }

pub may_begin : (d : Draft) (w : Core) (n : ℕ) → refuses d w (Begin n) ≡ None → MayBegin d w n
unfolding refuses
may_begin d w n h =
    let found = is_there w.actors n (λ a. first_of (begin_rows d w.turns a)) h in
    begin_from d w n found.actor found.there found.passes

-- an item may be thrown away
pub record MaySkip (d : Draft) (w : Core) (n : ℕ) : Type 0 where
  pub inside : n < length w.actors
  pub some : skipped_by d (slice_get w.actors n) ≡ None → ⊥

item_there : (d : Draft) (n : ℕ) (q : ℕ) (o : Option Item) → is_nothing (found_item d n q o) ≡ false → option_map trigger_of o ≡ None → ⊥
item_there d n q None h e = absurd (cc)
item_there d n q (Some x) h e = absurd (cc)

something_at : (d : Draft) (n : ℕ) (s : Standing) (xs : List Item) → is_nothing (found_at d n s xs) ≡ false → is_ignored (found_at d n s xs) ≡ true
    → option_map trigger_of (item_at d n s xs) ≡ None → ⊥
something_at d n (At Start) xs h k x = absurd (cc)
something_at d n (At (State q)) xs h k x = item_there d n q.0 (first_unsaved (is_saved d n q.0) xs) h x
something_at d n HasStopped xs h k x = absurd (cc)

something_there : (d : Draft) (a : Actor) → is_nothing (looks d a) ≡ false → is_ignored (looks d a) ≡ true
    → option_map trigger_of (item_at d a.name.process.0 a.standing a.port.items) ≡ None → ⊥
unfolding looks
something_there d a h k x = something_at d a.name.process.0 a.standing a.port.items h k x

skip_from : (d : Draft) (w : Core) (n : ℕ) (a : Actor) → slice_get w.actors n ≡ Some a → first_of (skip_rows d a) ≡ None → MaySkip d w n
unfolding skip_rows
skip_from d w n a e h =
    let none : Option Refusal = first_of [] in
    let third : Option Refusal = if not (is_ignored (looks d a)) then Some refusal.NotIgnored else none in
    let second : Option Refusal = if is_nothing (looks d a) then Some refusal.Nothing else third in
    let one : (is_out a ≡ false) × (second ≡ None) = row_passes (is_out a) refusal.Busy second h in
    let two : (is_nothing (looks d a) ≡ false) × (third ≡ None) = row_passes (is_nothing (looks d a)) refusal.Nothing third one.1 in
    let three : (not (is_ignored (looks d a)) ≡ false) × (none ≡ None) = row_passes (not (is_ignored (looks d a))) refusal.NotIgnored none two.1 in
    record {
      inside = slice_get_within w.actors n a e;
      some = λ x. something_there d a two.0 (not_true (is_ignored (looks d a)) three.0) (ap (skipped_by d) (sym e) ∙ x);
    }

pub may_skip : (d : Draft) (w : Core) (n : ℕ) → refuses d w (Skip n) ≡ None → MaySkip d w n
unfolding refuses
may_skip d w n h =
    let found = is_there w.actors n (λ a. first_of (skip_rows d a)) h in
    skip_from d w n found.actor found.there found.passes

skip_says : (d : Draft) (n : ℕ) (t : Trigger) (o : Option Item) → option_map trigger_of o ≡ Some t → skip_reply_of o ≡ reply.Skipped t
skip_says d n t None h = absurd (cc)
skip_says d n t (Some x) h = let same : trigger_of x ≡ t = cc in ap reply.Skipped same

pub skip_replies : (d : Draft) (t : Trigger) (o : Option Actor) → skipped_by d o ≡ Some t → skip_reply d o ≡ reply.Skipped t
skip_replies d t None h = absurd (cc)
skip_replies d t (Some a) h = skip_says d a.name.process.0 t (item_at d a.name.process.0 a.standing a.port.items) h
