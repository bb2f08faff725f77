-- The numbers of a link's state stay within their bounds.
use Rattle.std.proofs.Common.{◌≡◌, ℕ, ◌+◌, ◌-◌, ◌*◌, ◌^◌, ◌<◌, ◌≤◌, ◌⊎◌, inl, inr, ⊎_elim, Bool, true, false, cond, if◌then◌else◌, [], ◌∷◌, ◌++◌, length, Option, Some, None, refl, sym, ap, subst, arith, ltb-false, leb-false}
use Rattle.std.specs.Prelude.{slice_get, nat_lt, nat_le}
use Rattle.std.proofs.lemmas.Bool.Decides.{leb_tells}
use Rattle.std.proofs.lemmas.List.{length-append}
use Rattle.turn_code.specs.Safe.{SafeLaw, RunLaw}
use Rattle.turn_code.specs.Valid.{IsValid}
use Rattle.turn_code.specs.declared.draft.Draft.{Draft}
use Rattle.actor_machine.specs.Core.{Core, is_out, outs, change}
use Rattle.actor_machine.specs.Looking.{looks, begun, skipped}
use Rattle.actor_machine.specs.Effects.{receives}
use Rattle.actor_machine.specs.Fits.{CoreFits}
use Rattle.actor_machine.specs.Step.{Stepped, step, offered_arrival, passed}
use Rattle.actor_machine.specs.Refusals.{refuses, first_of, of_actor, begin_rows, advance_rows, is_nothing, is_ignored, is_counted_out, needs, with_room}
use Rattle.actor_machine.specs.Ledger.{Ledger, runs, next, room}
use Rattle.actor_machine.specs.Kept.{IsBounded, is_finish}
use Rattle.actor_machine.specs.declared.actor.Actor.{Actor}
use Rattle.actor_machine.specs.declared.event.Event.{Event}
use Rattle.actor_machine.specs.declared.event.Event.TheVariants.{Offer, Begin, Skip, Finish, Advance, TakeEnv}
use Rattle.actor_machine.specs.declared.reply.Refusal.{Refusal}
use Rattle.actor_machine.specs.declared.reply.Refusal.TheVariants.{JournalFull}
use Rattle.actor_machine.proofs.Replays.{with_event}
use Rattle.actor_machine.proofs.Ends.{ActorEnds, turn_ends}
use Rattle.actor_machine.proofs.Counts.{OneLess, outs_change, outs_more, receives_keeps, skipped_keeps, begun_out, less_finished, outs_passed}
use Rattle.plain_laws.proofs.Options.{row_passes}

-- the bounds that don't depend on the journal
pub record IsCounted (w : Core) : Type 0 where
  pub turns : w.turns ≤ 2 ^ 40
  pub finishes : w.finishes + outs w.actors ≡ w.turns
  pub instructions : w.instructions ≤ 512 * w.finishes
  pub clock : w.timers.clock ≤ 2 ^ 62

-- the numbers of state w and of state v after event e
pub record Moves (e : Event) (v w : Core) : Type 0 where
  pub outs : outs v.actors + 1 ≡ outs w.actors + needs e
  pub finishes : v.finishes ≡ w.finishes + cond (is_finish e) 1 0
  pub counted : IsCounted v

-- an event that neither begins nor ends a turn
moves_on : (e : Event) (v w : Core) → needs e ≡ 1 → is_finish e ≡ false → outs v.actors ≡ outs w.actors → v.turns ≡ w.turns
    → v.finishes ≡ w.finishes → v.instructions ≡ w.instructions → v.timers.clock ≤ 2 ^ 62 → IsCounted w → Moves e v w
moves_on e v w single other out turns finishes instructions clock h =
    let least : w.turns ≤ 2 ^ 40 = h.turns in
    let some : w.finishes + outs w.actors ≡ w.turns = h.finishes in
    let few : w.instructions ≤ 512 * w.finishes = h.instructions in
    let none : cond {A = ℕ} (is_finish e) 1 0 ≡ 0 = ap (λ (b : Bool). cond b 1 0) other in
    record {
      outs = omega arith;
      finishes = omega arith;
      counted = record { turns = omega arith; finishes = omega arith; instructions = omega arith; clock = clock };
    }

-- ---- an event that isn't refused

-- an actor that may begin a turn
record MayBegin (turns : ℕ) (o : Option Actor) : Type 0 where
  actor : Actor
  there : o ≡ Some actor
  free : is_out actor ≡ false
  few : turns < 2 ^ 40

may_begin : (d : Draft) (turns : ℕ) (o : Option Actor) → of_actor (λ a. first_of (begin_rows d turns a)) o ≡ None → MayBegin turns o
unfolding begin_rows
may_begin d turns None h = cc
may_begin d turns (Some a) h =
    let out = row_passes (is_out a) _ _ h in
    let found = row_passes (is_nothing (looks d a)) _ _ out.1 in
    let heard = row_passes (is_ignored (looks d a)) _ _ found.1 in
    let counted = row_passes (is_counted_out turns) _ _ heard.1 in
    record { actor = a; there = refl; free = out.0; few = leb-false (2 ^ 40) turns counted.0 }

may_advance : (clock k : ℕ) → first_of (advance_rows clock k) ≡ None → clock + k ≤ 2 ^ 62
unfolding advance_rows
may_advance clock k h =
    let near = row_passes (nat_lt 65535 k) _ _ h in
    let early = row_passes (nat_lt (2 ^ 62) (clock + k)) _ _ near.1 in
    ltb-false (2 ^ 62) (clock + k) early.0

-- ---- each event

moves_finish : (n : ℕ) (w : Core) (count : ℕ) (v : Core) → OneLess count v w → count ≤ 512 → IsCounted w → Moves (Finish n) v w
moves_finish n w count v less few h =
    let least : w.turns ≤ 2 ^ 40 = h.turns in
    let some : w.finishes + outs w.actors ≡ w.turns = h.finishes in
    let short : w.instructions ≤ 512 * w.finishes = h.instructions in
    let early : w.timers.clock ≤ 2 ^ 62 = h.clock in
    let out : outs v.actors + 1 ≡ outs w.actors = less.outs in
    let turns : v.turns ≡ w.turns = less.turns in
    let finishes : v.finishes ≡ w.finishes + 1 = less.finishes in
    let instructions : v.instructions ≡ w.instructions + count = less.instructions in
    let clock : v.timers.clock ≡ w.timers.clock = less.clock in
    record {
      outs = omega arith;
      finishes = omega arith;
      counted = record { turns = omega arith; finishes = omega arith; instructions = omega arith; clock = omega arith };
    }

moves_begin : (n : ℕ) (d : Draft) (w : Core) → IsCounted w → MayBegin w.turns (slice_get w.actors n) → Moves (Begin n) (step d (runs d) w (Begin n)).to w
unfolding step
moves_begin n d w h may =
    let some : w.finishes + outs w.actors ≡ w.turns = h.finishes in
    let few : w.turns < 2 ^ 40 = may.few in
    let more : outs (change w.actors n (begun d w.turns)) ≡ outs w.actors + 1 =
    outs_more (begun d w.turns) w.actors n may.actor may.there may.free (begun_out d w.turns may.actor) in
    record {
      outs = omega arith;
      finishes = omega arith;
      counted = record { turns = omega arith; finishes = omega arith; instructions = h.instructions; clock = h.clock };
    }

pub moves : SafeLaw → RunLaw → (d : Draft) (w : Core) (e : Event) → IsValid d → CoreFits d w → refuses d w e ≡ None → IsCounted w
    → Moves e (step d (runs d) w e).to w
unfolding step refuses passed
moves safe law d w (Offer o) valid fits h c =
    moves_on (Offer o) (step d (runs d) w (Offer o)).to w refl refl (outs_change (receives (offered_arrival o)) w.actors o.actor (receives_keeps (offered_arrival o))) refl refl refl
    c.clock c
moves safe law d w (Begin n) valid fits h c = moves_begin n d w c (may_begin d w.turns (slice_get w.actors n) h)
moves safe law d w (Skip n) valid fits h c =
    moves_on (Skip n) (step d (runs d) w (Skip n)).to w refl refl (outs_change (skipped d) w.actors n (skipped_keeps d)) refl refl refl c.clock c
moves safe law d w (Finish n) valid fits h c =
    let e : ActorEnds d n w (slice_get w.actors n) = turn_ends safe law d w n valid fits h in
    subst (λ (x : Stepped). Moves (Finish n) x.to w) (sym e.ended)
    (moves_finish n w e.outcome.progress.count _ (less_finished n e.actor.name e.outcome w e.actor e.there e.out) e.count c)
moves safe law d w (Advance k) valid fits h c =
    moves_on (Advance k) (passed k w) w refl refl (outs_passed k w) refl refl refl (may_advance w.timers.clock k h) c
moves safe law d w TakeEnv valid fits h c = moves_on TakeEnv (step d (runs d) w TakeEnv).to w refl refl refl refl refl refl c.clock c

-- ---- the journal's room

-- at least as many places are free as the event needs
pub room_passes : (k : ℕ) (e : Event) (o : Option Refusal) → with_room k e o ≡ None → needs e ≤ k
room_passes k e None h = ltb-false k (needs e) (row_passes (nat_lt k (needs e)) JournalFull None h).0
room_passes k e (Some r) h = cc

room_used : (full : Bool) (n limit used : ℕ) → used ≤ limit → n ≤ (if full then 0 else limit - used) → n + used ≤ limit
room_used true n limit used le h = omega arith
room_used false n limit used le h = omega arith

room_none : (full : Bool) (n limit used : ℕ) → full ≡ true → n ≤ (if full then 0 else limit - used) → n ≡ 0
room_none true n limit used is h = omega arith
room_none false n limit used is h = cc

-- the journal of a book with one more event
pub bounded_next : (b : Ledger) (e : Event) (v w : Core) → IsBounded b w → Moves e v w → needs e ≤ room b w → IsBounded (with_event b e) v
unfolding room
bounded_next b e v w h m enough =
    let longer : length (b.journal ++ e ∷ []) ≡ length b.journal + 1 = length-append b.journal (e ∷ []) in
    let out : outs v.actors + 1 ≡ outs w.actors + needs e = m.outs in
    let was : length b.journal + outs w.actors ≤ b.limit = h.room in
    let free : needs e + (length b.journal + outs w.actors) ≤ b.limit =
    room_used (nat_le (2 ^ 56) (next b)) (needs e) b.limit (length b.journal + outs w.actors) was enough in
    let places : b.first + length b.journal + outs w.actors ≤ 2 ^ 56 + b.limit = h.places in
    let early : (needs e ≡ 0) ⊎ (b.first + length b.journal < 2 ^ 56) =
    ⊎_elim
    (λ (full : (nat_le (2 ^ 56) (next b) ≡ true) × (2 ^ 56 ≤ next b)).
    inl (room_none (nat_le (2 ^ 56) (next b)) (needs e) b.limit (length b.journal + outs w.actors) full.0 enough))
    (λ (not_yet : (nat_le (2 ^ 56) (next b) ≡ false) × (next b < 2 ^ 56)). inr not_yet.1)
    (leb_tells (2 ^ 56) (next b)) in
    record {
      room = omega arith;
      places = omega arith;
      limit = h.limit;
      turns = m.counted.turns;
      finishes = m.counted.finishes;
      instructions = m.counted.instructions;
      clock = m.counted.clock;
    }
