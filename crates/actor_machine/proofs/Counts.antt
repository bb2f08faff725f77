-- The numbers of a link's state, and how each event changes them.
use Rattle.std.proofs.Common.{◌≡◌, ℕ, zero, suc, ◌+◌, Bool, true, false, cond, List, [], ◌∷◌, Option, Some, None, refl, ap, ◌∙◌, subst, arith}
use Rattle.std.specs.Prelude.{slice_get, slice_set}
use Rattle.std.proofs.lemmas.List.Sums.{sum_by-set}
use Rattle.std.proofs.lemmas.Option.{slice_get_within, get_or_from_slice_get}
use Rattle.turn_code.specs.Outcome.{Outcome}
use Rattle.turn_code.specs.declared.draft.Draft.{Draft}
use Rattle.turn_code.specs.declared.effect.Effect.{Effect}
use Rattle.turn_code.specs.declared.effect.Effect.TheVariants.{Output, Set, Reset}
use Rattle.turn_code.specs.declared.effect.Sending.{Sending}
use Rattle.turn_code.specs.declared.input.Party.{Party}
use Rattle.turn_code.specs.declared.input.Party.TheVariants.{Environment, Process}
use Rattle.turn_code.specs.declared.machine.End.{End}
use Rattle.turn_code.specs.declared.machine.End.TheVariants.{State, Stop}
use Rattle.input_port.specs.declared.queue.Arrival.{Arrival}
use Rattle.tick_wheel.specs.Timers.{Timers}
use Rattle.tick_wheel.specs.declared.Due.{Due}
use Rattle.turn_code.specs.declared.numbers.InstanceNumber.{InstanceNumber}
use Rattle.actor_machine.specs.Names.{number_for}
use Rattle.actor_machine.specs.declared.name.ActorName.{ActorName}
use Rattle.actor_machine.specs.Core.{Core, set_at, change, change_found, is_out, outs, names_in}
use Rattle.actor_machine.specs.Looking.{begun, skipped}
use Rattle.actor_machine.specs.Effects.{reached, receives, drops, hears, delivered, laid, laid_all, settled, moved, ended, started, finished, timers_after, without_first_timers, without_timers}
use Rattle.actor_machine.specs.Step.{notified, due_in, passed}
use Rattle.actor_machine.specs.declared.actor.Actor.{Actor}
use Rattle.actor_machine.specs.declared.actor.Standing.{Standing}
use Rattle.actor_machine.specs.declared.actor.Standing.TheVariants.{At, Stopped}

-- ---- the number of actors that have a turn out

abbrev pub weight : Actor → ℕ
weight a = cond (is_out a) 1 0

weight_at : (a b : Actor) (t : Bool) → a ≡ b → is_out b ≡ t → weight a ≡ cond t 1 0
weight_at a b t e h = ap weight e ∙ ap (λ (u : Bool). cond u 1 0) h

-- one actor changes, which adds or removes a turn that is out
pub outs_set : (xs : List Actor) (n : ℕ) (a b : Actor) → slice_get xs n ≡ Some a
    → outs (slice_set xs n b) + weight a ≡ outs xs + weight b
outs_set xs n a b h =
    subst (λ (x : Actor). outs (slice_set xs n b) + weight x ≡ outs xs + weight b) (get_or_from_slice_get xs n a a h)
    (sum_by-set weight xs n b a (slice_get_within xs n a h))

pub Keeps : (Actor → Actor) → Type 0
Keeps f = (a : Actor) → is_out (f a) ≡ is_out a

kept_at : (f : Actor → Actor) (xs : List Actor) (n : ℕ) (o : Option Actor) → Keeps f → slice_get xs n ≡ o → outs (set_at xs n f o) ≡ outs xs
unfolding Keeps
kept_at f xs n None keeps h = refl
kept_at f xs n (Some a) keeps h =
    let sets = outs_set xs n a (f a) h in
    let counts : weight (f a) ≡ weight a = ap (λ (b : Bool). cond b 1 0) (keeps a) in
    omega arith

pub outs_change : (f : Actor → Actor) (xs : List Actor) (n : ℕ) → Keeps f → outs (change xs n f) ≡ outs xs
outs_change f xs n keeps = kept_at f xs n (slice_get xs n) keeps refl

pub outs_found : (f : Actor → Actor) (xs : List Actor) (o : Option ℕ) → Keeps f → outs (change_found xs o f) ≡ outs xs
outs_found f xs None keeps = refl
outs_found f xs (Some n) keeps = outs_change f xs n keeps

-- an actor that begins a turn
more_at : (f : Actor → Actor) (xs : List Actor) (n : ℕ) (o : Option Actor) (a : Actor) → slice_get xs n ≡ o → o ≡ Some a
    → is_out a ≡ false → is_out (f a) ≡ true → outs (set_at xs n f o) ≡ outs xs + 1
more_at f xs n None a h e before after = cc
more_at f xs n (Some b) a h e before after =
    let same : b ≡ a = cc in
    let sets = outs_set xs n b (f b) h in
    let was : weight b ≡ 0 = weight_at b a false same before in
    let is : weight (f b) ≡ 1 = weight_at (f b) (f a) true (ap f same) after in
    omega arith

pub outs_more : (f : Actor → Actor) (xs : List Actor) (n : ℕ) (a : Actor) → slice_get xs n ≡ Some a
    → is_out a ≡ false → is_out (f a) ≡ true → outs (change xs n f) ≡ outs xs + 1
outs_more f xs n a h before after = more_at f xs n (slice_get xs n) a refl h before after

-- an actor that ends a turn
less_at : (f : Actor → Actor) (xs : List Actor) (n : ℕ) (o : Option Actor) (a : Actor) → slice_get xs n ≡ o → o ≡ Some a
    → is_out a ≡ true → is_out (f a) ≡ false → outs (set_at xs n f o) + 1 ≡ outs xs
less_at f xs n None a h e before after = cc
less_at f xs n (Some b) a h e before after =
    let same : b ≡ a = cc in
    let sets = outs_set xs n b (f b) h in
    let was : weight b ≡ 1 = weight_at b a true same before in
    let is : weight (f b) ≡ 0 = weight_at (f b) (f a) false (ap f same) after in
    omega arith

pub outs_less : (f : Actor → Actor) (xs : List Actor) (n : ℕ) (a : Actor) → slice_get xs n ≡ Some a
    → is_out a ≡ true → is_out (f a) ≡ false → outs (change xs n f) + 1 ≡ outs xs
outs_less f xs n a h before after = less_at f xs n (slice_get xs n) a refl h before after

-- ---- changes that keep an actor's turn

reached_keeps : (arrival : Arrival) (a : Actor) (s : Standing) → is_out (reached a arrival s) ≡ is_out a
reached_keeps arrival a (At s) = refl
reached_keeps arrival a Stopped = refl

pub receives_keeps : (arrival : Arrival) → Keeps (receives arrival)
unfolding Keeps
receives_keeps arrival a = reached_keeps arrival a a.standing

pub drops_keeps : (timer : ℕ) → Keeps (drops timer)
unfolding Keeps
drops_keeps timer a = refl

pub hears_keeps : (timer : ℕ) → Keeps (hears timer)
unfolding Keeps
hears_keeps timer a = refl

pub skipped_keeps : (d : Draft) → Keeps (skipped d)
unfolding Keeps skipped
skipped_keeps d a = refl

pub moved_keeps : (e : End) → Keeps (moved e)
unfolding Keeps
moved_keeps (State q) a = refl
moved_keeps Stop a = refl

pub begun_out : (d : Draft) (turn : ℕ) (a : Actor) → is_out (begun d turn a) ≡ true
unfolding begun
begun_out d turn a = refl

pub settled_in : (o : Outcome) (a : Actor) → is_out (settled o a) ≡ false
settled_in o a = refl

-- ---- the effects of a turn, and its end

-- the numbers stay as they are
pub record Same (v w : Core) : Type 0 where
  pub outs : outs v.actors ≡ outs w.actors
  pub turns : v.turns ≡ w.turns
  pub finishes : v.finishes ≡ w.finishes
  pub instructions : v.instructions ≡ w.instructions
  pub clock : v.timers.clock ≡ w.timers.clock

same_delivered : (me : ActorName) (w : Core) (s : Sending) (p : Party) (k : Option InstanceNumber) → Same (delivered me w s p k) w
same_delivered me w s Environment k = record { outs = refl; turns = refl; finishes = refl; instructions = refl; clock = refl }
same_delivered me w s (Process m) k = record {
  outs = outs_found (receives _) w.actors (number_for (names_in w.actors) me m k) (receives_keeps _);
  turns = refl;
  finishes = refl;
  instructions = refl;
  clock = refl;
}

same_laid : (n : ℕ) (me : ActorName) (w : Core) (e : Effect) → Same (laid n me w e) w
same_laid n me w (Output s) = same_delivered me w s s.receiver.party s.receiver.instance
same_laid n me w (Set t z) =
    record { outs = outs_change (drops t.0) w.actors n (drops_keeps t.0); turns = refl; finishes = refl; instructions = refl; clock = refl }
same_laid n me w (Reset t) =
    record { outs = outs_change (drops t.0) w.actors n (drops_keeps t.0); turns = refl; finishes = refl; instructions = refl; clock = refl }

same_then : {u v w : Core} → Same u v → Same v w → Same u w
same_then a b = record {
  outs = a.outs ∙ b.outs;
  turns = a.turns ∙ b.turns;
  finishes = a.finishes ∙ b.finishes;
  instructions = a.instructions ∙ b.instructions;
  clock = a.clock ∙ b.clock;
}

pub same_laid_all : (n : ℕ) (me : ActorName) (w : Core) (es : List Effect) → Same (laid_all n me w es) w
same_laid_all n me w [] = record { outs = refl; turns = refl; finishes = refl; instructions = refl; clock = refl }
same_laid_all n me w (e ∷ es) = same_then (same_laid_all n me (laid n me w e) es) (same_laid n me w e)

first_timers_clock : (ts : Timers) (n k : ℕ) → (without_first_timers ts n k).clock ≡ ts.clock
first_timers_clock ts n zero = refl
first_timers_clock ts n (suc k) = first_timers_clock ts n k

timers_clock : (e : End) (ts : Timers) (n : ℕ) → (timers_after e ts n).clock ≡ ts.clock
unfolding without_timers
timers_clock (State q) ts n = refl
timers_clock Stop ts n = first_timers_clock ts n 8

pub same_ended : (n : ℕ) (e : End) (w : Core) → Same (ended n e w) w
same_ended n e w = record {
  outs = outs_change (moved e) w.actors n (moved_keeps e);
  turns = refl;
  finishes = refl;
  instructions = refl;
  clock = timers_clock e w.timers n;
}

-- a turn of actor n ends: one turn less is out, and the turn and its instructions are counted
pub record OneLess (count : ℕ) (v w : Core) : Type 0 where
  pub outs : outs v.actors + 1 ≡ outs w.actors
  pub turns : v.turns ≡ w.turns
  pub finishes : v.finishes ≡ w.finishes + 1
  pub instructions : v.instructions ≡ w.instructions + count
  pub clock : v.timers.clock ≡ w.timers.clock

less_started : (n : ℕ) (o : Outcome) (w : Core) (a : Actor) → slice_get w.actors n ≡ Some a → is_out a ≡ true
    → OneLess o.progress.count (started n o w) w
less_started n o w a h out = record {
  outs = outs_less (settled o) w.actors n a h out (settled_in o a);
  turns = refl;
  finishes = refl;
  instructions = refl;
  clock = refl;
}

same_less : {count : ℕ} {u v w : Core} → Same u v → OneLess count v w → OneLess count u w
same_less a b = record {
  outs = ap (λ (n : ℕ). n + 1) a.outs ∙ b.outs;
  turns = a.turns ∙ b.turns;
  finishes = a.finishes ∙ b.finishes;
  instructions = a.instructions ∙ b.instructions;
  clock = a.clock ∙ b.clock;
}

pub less_finished : (n : ℕ) (me : ActorName) (o : Outcome) (w : Core) (a : Actor) → slice_get w.actors n ≡ Some a → is_out a ≡ true
    → OneLess o.progress.count (finished n me o w) w
unfolding finished
less_finished n me o w a h out =
    same_less (same_then (same_ended n o.end (laid_all n me (started n o w) o.progress.effects)) (same_laid_all n me (started n o w) o.progress.effects))
    (less_started n o w a h out)

-- ---- ticks

outs_notified : (actors : List Actor) (xs : List Due) → outs (notified actors xs) ≡ outs actors
outs_notified actors [] = refl
outs_notified actors (x ∷ xs) =
    outs_notified (change actors x.timer.actor (hears x.timer.number)) xs
    ∙ outs_change (hears x.timer.number) actors x.timer.actor (hears_keeps x.timer.number)

-- the number of actors that have a turn out stays as ticks pass
pub outs_passed : (k : ℕ) (w : Core) → outs (passed k w).actors ≡ outs w.actors
unfolding passed
outs_passed k w = outs_notified w.actors (due_in w k)
