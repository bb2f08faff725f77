-- Refusals and losses as Full, EnvFull and Stopped: they are exact, at the right places and without duplicates.
use Rattle.std.proofs.Common.{◌≡◌, ℕ, zero, suc, ◌+◌, ◌<◌, ◌≤◌, Bool, true, false, not, if◌then◌else◌, arith, List, [], ◌∷◌, ◌++◌, take, Option, Some, None, refl, sym, ap, ◌∙◌, subst, append_assoc}
use Rattle.std.specs.Prelude.{option_to_list, option_map, nat_lt, slice_get}
use Rattle.std.specs.List.{AllByRecursion}
use Rattle.std.proofs.lemmas.Option.{same_Some, none-some, slice_get-map}
use Rattle.turn_code.specs.Outcome.{Outcome, Meaning}
use Rattle.turn_code.specs.declared.numbers.ProcessNumber.{ProcessNumber}
use Rattle.turn_code.specs.declared.numbers.InstanceNumber.{InstanceNumber}
use Rattle.turn_code.specs.declared.input.Place.{Place}
use Rattle.turn_code.specs.declared.input.Party.{Party}
use Rattle.turn_code.specs.declared.input.Party.TheVariants.{Environment, Process}
use Rattle.turn_code.specs.declared.effect.Effect.{Effect}
use Rattle.turn_code.specs.declared.effect.Effect.TheVariants.{Output, Set, Reset}
use Rattle.turn_code.specs.declared.effect.Sending.{Sending}
use Rattle.turn_code.specs.declared.draft.Draft.{Draft}
use Rattle.actor_machine.specs.Names.{number_for}
use Rattle.actor_machine.specs.declared.name.ActorName.{ActorName}
use Rattle.actor_machine.specs.Core.{Core, found_in, names_in}
use Rattle.actor_machine.specs.Effects.{is_full, has_room, refusal_at, refusal_in, receives, drops, arrival_of, delivered, undelivered, laid, laid_all, lost_for, lost_by, losses, settled, started, lost_in}
use Rattle.actor_machine.specs.Full.{MeetsFull, FindsFull, FindsStopped, lost_at, IsLost, IsOutput, AreInOrder, behind, FullLaw}
use Rattle.actor_machine.specs.Receivers.{HasReceiver}
use Rattle.actor_machine.specs.Refusals.{first_of, has_stopped, is_offered, offer_rows, of_actor, refuses, needs, with_room}
use Rattle.actor_machine.specs.Step.{Says, Stepped, step}
use Rattle.actor_machine.specs.Ledger.{Ledger, state_by, room, refusal_by, asked, ask_by}
use Rattle.actor_machine.specs.declared.actor.Actor.{Actor}
use Rattle.actor_machine.specs.declared.actor.Standing.{Standing}
use Rattle.actor_machine.specs.declared.actor.Standing.TheVariants.{At, Stopped as HasStopped}
use Rattle.actor_machine.specs.declared.event.Event.{Event}
use Rattle.actor_machine.specs.declared.event.Event.TheVariants.{Offer}
use Rattle.actor_machine.specs.declared.event.Offer.{Offer as Offered}
use Rattle.actor_machine.specs.declared.reply.Cause.{Cause}
use Rattle.actor_machine.specs.declared.reply.Cause.TheVariants as cause
use Rattle.actor_machine.specs.declared.reply.Lost.{Lost}
use Rattle.actor_machine.specs.declared.reply.Refusal.{Refusal}
use Rattle.actor_machine.specs.declared.reply.Refusal.TheVariants.{Full, Stopped, NoRoute, JournalFull}
use Rattle.actor_machine.specs.declared.reply.Reply.TheVariants as reply
use Rattle.actor_machine.proofs.FitsActors.{receives_stay, drops_stay}
use Rattle.actor_machine.proofs.FitsFinish.{settled_stays}
use Rattle.actor_machine.proofs.FitsLists.{names_change, names_found}
use Rattle.actor_machine.proofs.Opened.{both_parts}

-- an actor at a place hasn't stopped
stands_somewhere : (s : Standing) → has_stopped s ≡ false → (q : Place) × (s ≡ At q)
stands_somewhere (At q) h = (q, refl)
stands_somewhere HasStopped h = cc

-- ---- an offer

-- the third row holds, and neither of the first two
third_row : (x y z : Bool) → x ≡ false → y ≡ true → z ≡ true → first_of ((x, Stopped) ∷ (not y, NoRoute) ∷ (z, Full) ∷ []) ≡ Some Full
third_row x y z stands offered full =
    ap (λ (b : Bool). first_of ((b, Stopped) ∷ (not y, NoRoute) ∷ (z, Full) ∷ [])) stands
    ∙ ap (λ (b : Bool). first_of ((not b, NoRoute) ∷ (z, Full) ∷ [])) offered
    ∙ ap (λ (b : Bool). first_of ((b, Full) ∷ [])) full

third_alone : (x y z : Bool) → first_of ((x, Stopped) ∷ (not y, NoRoute) ∷ (z, Full) ∷ []) ≡ Some Full → (x ≡ false) × (y ≡ true) × (z ≡ true)
third_alone true y z h = cc
third_alone false false z h = cc
third_alone false true false h = cc
third_alone false true true h = (refl, refl, refl)

meets_refused : (d : Draft) (w : Core) (o : Offered) → MeetsFull d w.actors o → refuses d w (Offer o) ≡ Some Full
unfolding refuses offer_rows
meets_refused d w o h =
    ap (of_actor (λ a. first_of (offer_rows d o a))) h.port.there
    ∙ third_row (has_stopped h.actor.standing) (is_offered d h.actor.name.process.0 o.signal o.values.items) (is_full h.actor.port) (ap has_stopped h.port.standing) h.offered
    h.port.full

refused_meets : (d : Draft) (w : Core) (o : Offered) → refuses d w (Offer o) ≡ Some Full → MeetsFull d w.actors o
unfolding refuses offer_rows
refused_meets d w o h = by (slice_get w.actors o.actor) refl h
  where
    by : (x : Option Actor) → slice_get w.actors o.actor ≡ x → of_actor (λ a. first_of (offer_rows d o a)) x ≡ Some Full → MeetsFull d w.actors o
    by None there h = cc
    by (Some a) there h =
        let rows = third_alone (has_stopped a.standing) (is_offered d a.name.process.0 o.signal o.values.items) (is_full a.port) h in
        let stands = stands_somewhere a.standing rows.0 in
        record { actor = a; port = record { there = there; place = stands.0; standing = stands.1; full = rows.2 }; offered = rows.1 }

-- a lack of room in the journal is refused by another name
no_room : (k : ℕ) (e : Event) (o : Option Refusal) → with_room k e o ≡ Some Full → o ≡ Some Full
no_room k e None h = absurd (by (nat_lt k (needs e)) h)
  where
    by : (b : Bool) → (let x : Option Refusal = if b then Some JournalFull else None in x) ≡ Some Full → ⊥
    by true h = cc
    by false h = cc
no_room k e (Some r) h = h

asked_refused : (b : Ledger) (e : Event) (s : Stepped) (o : Option Refusal) → o ≡ Some Full → (asked b e s o).answer ≡ Says (reply.Refused Full)
asked_refused b e s o h = ap (λ (o : Option Refusal). (asked b e s o).answer) h

refused_asked : (b : Ledger) (e : Event) (s : Stepped) (o : Option Refusal) → s.answer ≡ Says reply.Offered → (asked b e s o).answer ≡ Says (reply.Refused Full) → o ≡ Some Full
refused_asked b e s None is h = let other : Says reply.Offered ≡ Says (reply.Refused Full) = sym is ∙ h in cc
refused_asked b e s (Some r) is h = ap (λ (r : Refusal). Some r) (let same : r ≡ Full = cc in same)

offer_full : (m : Meaning) (b : Ledger) (o : Offered) → MeetsFull b.set (state_by m b).actors o → (ask_by m b (Offer o)).answer ≡ Says (reply.Refused Full)
unfolding ask_by
offer_full m b o h =
    asked_refused b (Offer o) (step b.set m (state_by m b) (Offer o)) (refusal_by m b (Offer o))
    (ap (with_room (room b (state_by m b)) (Offer o)) (meets_refused b.set (state_by m b) o h))

full_offer : (m : Meaning) (b : Ledger) (o : Offered) → (ask_by m b (Offer o)).answer ≡ Says (reply.Refused Full) → MeetsFull b.set (state_by m b).actors o
unfolding ask_by step
full_offer m b o h =
    refused_meets b.set (state_by m b) o
    (no_room (room b (state_by m b)) (Offer o) (refuses b.set (state_by m b) (Offer o))
    (refused_asked b (Offer o) (step b.set m (state_by m b) (Offer o)) (refusal_by m b (Offer o)) refl h))

-- ---- the actor that doesn't take an output

port_full : (me : ActorName) (w : Core) (s : Sending) → FindsFull me w s → undelivered me w s.receiver.party s.receiver.instance ≡ Some cause.Full
port_full me w s h =
    ap (λ (p : Party). undelivered me w p s.receiver.instance) h.to
    ∙ ap (λ (o : Option ℕ). refusal_in (found_in w.actors o)) h.found
    ∙ ap refusal_in h.port.there
    ∙ ap (refusal_at h.actor.port) h.port.standing
    ∙ ap (λ (b : Bool). let o : Option Cause = if b then Some cause.Full else None in o) h.port.full

if_full : (b : Bool) → (let o : Option Cause = if b then Some cause.Full else None in o) ≡ Some cause.Full → b ≡ true
if_full true h = refl
if_full false h = cc

full_port : (me : ActorName) (w : Core) (s : Sending) → undelivered me w s.receiver.party s.receiver.instance ≡ Some cause.Full → FindsFull me w s
full_port me w s h = to s.receiver.party refl h
  where
    standing : (p : ProcessNumber) (j : ℕ) (a : Actor) (x : Standing) → s.receiver.party ≡ Process p → number_for (names_in w.actors) me p s.receiver.instance ≡ Some j
        → slice_get w.actors j ≡ Some a → a.standing ≡ x → refusal_at a.port x ≡ Some cause.Full → FindsFull me w s
    standing p j a (At q) is found there at h =
        record { process = p; to = is; number = j; found = found; actor = a; port = record { there = there; place = q; standing = at; full = if_full (is_full a.port) h } }
    standing p j a HasStopped is found there at h = cc

    actor : (p : ProcessNumber) (j : ℕ) (x : Option Actor) → s.receiver.party ≡ Process p → number_for (names_in w.actors) me p s.receiver.instance ≡ Some j
        → slice_get w.actors j ≡ x → refusal_in x ≡ Some cause.Full → FindsFull me w s
    actor p j None is found there h = cc
    actor p j (Some a) is found there h = standing p j a a.standing is found there refl h

    number : (p : ProcessNumber) (x : Option ℕ) → s.receiver.party ≡ Process p → number_for (names_in w.actors) me p s.receiver.instance ≡ x
        → refusal_in (found_in w.actors x) ≡ Some cause.Full → FindsFull me w s
    number p None is found h = cc
    number p (Some j) is found h = actor p j (slice_get w.actors j) is found refl h

    environment : (b : Bool) → (let o : Option Cause = if b then None else Some cause.EnvFull in o) ≡ Some cause.Full → FindsFull me w s
    environment true h = cc
    environment false h = cc

    to : (p : Party) → s.receiver.party ≡ p → undelivered me w p s.receiver.instance ≡ Some cause.Full → FindsFull me w s
    to Environment is h = environment (has_room w.ring) h
    to (Process p) is h = number p (number_for (names_in w.actors) me p s.receiver.instance) is refl h

ring_full : (me : ActorName) (w : Core) (s : Sending) → (s.receiver.party ≡ Environment) × (has_room w.ring ≡ false)
    → undelivered me w s.receiver.party s.receiver.instance ≡ Some cause.EnvFull
ring_full me w s h =
    ap (λ (p : Party). undelivered me w p s.receiver.instance) h.0
    ∙ ap (λ (b : Bool). let o : Option Cause = if b then None else Some cause.EnvFull in o) h.1

-- a port never refuses with the name for the environment
other_name : (o : Option Actor) → refusal_in o ≡ Some cause.EnvFull → ⊥
other_name None h = cc
other_name (Some a) h = by a.standing h
  where
    full : (b : Bool) → (let o : Option Cause = if b then Some cause.Full else None in o) ≡ Some cause.EnvFull → ⊥
    full true h = cc
    full false h = cc

    by : (x : Standing) → refusal_at a.port x ≡ Some cause.EnvFull → ⊥
    by (At q) h = full (is_full a.port) h
    by HasStopped h = cc

full_ring : (me : ActorName) (w : Core) (s : Sending) → undelivered me w s.receiver.party s.receiver.instance ≡ Some cause.EnvFull
    → (s.receiver.party ≡ Environment) × (has_room w.ring ≡ false)
full_ring me w s h = to s.receiver.party refl h
  where
    environment : (b : Bool) → has_room w.ring ≡ b → (let o : Option Cause = if b then None else Some cause.EnvFull in o) ≡ Some cause.EnvFull → has_room w.ring ≡ false
    environment true is h = cc
    environment false is h = is

    to : (p : Party) → s.receiver.party ≡ p → undelivered me w p s.receiver.instance ≡ Some cause.EnvFull → (s.receiver.party ≡ Environment) × (has_room w.ring ≡ false)
    to Environment is h = (is, environment (has_room w.ring) refl h)
    to (Process p) is h = absurd (other_name (found_in w.actors (number_for (names_in w.actors) me p s.receiver.instance)) h)

-- ---- outputs to an actor that has stopped

-- the actors keep their names
delivered_names : (me : ActorName) (w : Core) (s : Sending) (p : Party) (k : Option InstanceNumber) → names_in (delivered me w s p k).actors ≡ names_in w.actors
delivered_names me w s Environment k = refl
delivered_names me w s (Process p) k =
    names_found w.actors (number_for (names_in w.actors) me p k) (receives (arrival_of me s)) (receives_stay (arrival_of me s))

laid_names : (n : ℕ) (me : ActorName) (w : Core) (e : Effect) → names_in (laid n me w e).actors ≡ names_in w.actors
laid_names n me w (Output s) = delivered_names me w s s.receiver.party s.receiver.instance
laid_names n me w (Set t z) = names_change w.actors n (drops t.0) (drops_stay t.0)
laid_names n me w (Reset t) = names_change w.actors n (drops t.0) (drops_stay t.0)

all_laid_names : (n : ℕ) (me : ActorName) (es : List Effect) (w : Core) → names_in (laid_all n me w es).actors ≡ names_in w.actors
all_laid_names n me [] w = refl
all_laid_names n me (e ∷ es) w = all_laid_names n me es (laid n me w e) ∙ laid_names n me w e

behind_names : (n : ℕ) (me : ActorName) (o : Outcome) (w : Core) (place : ℕ) → names_in (behind n me o w place).actors ≡ names_in w.actors
behind_names n me o w place =
    all_laid_names n me (take place o.progress.effects) (started n o w) ∙ names_change w.actors n (settled o) (settled_stays o)

-- a name at a number is the name of an actor
actor_called : (xs : List Actor) (n : ℕ) (x : ActorName) → slice_get (names_in xs) n ≡ Some x → (a : Actor) × (slice_get xs n ≡ Some a)
actor_called xs n x e = by (slice_get xs n) refl (sym (slice_get-map (λ (a : Actor). a.name) xs n) ∙ e)
  where
    by : (o : Option Actor) → slice_get xs n ≡ o → option_map (λ (a : Actor). a.name) o ≡ Some x → (a : Actor) × (slice_get xs n ≡ Some a)
    by None is h = absurd (none-some x h)
    by (Some a) is h = (a, is)

no_full : (b : Bool) → (let o : Option Cause = if b then Some cause.Full else None in o) ≡ Some cause.Stopped → ⊥
no_full true h = cc
no_full false h = cc

has_stopped_there : (a : Actor) (x : Standing) → a.standing ≡ x → refusal_at a.port x ≡ Some cause.Stopped → a.standing ≡ HasStopped
has_stopped_there a (At q) is h = absurd (no_full (is_full a.port) h)
has_stopped_there a HasStopped is h = is

stopped_actor : (me : ActorName) (w : Core) (s : Sending) → HasReceiver (names_in w.actors) me s.receiver.party s.receiver.instance
    → undelivered me w s.receiver.party s.receiver.instance ≡ Some cause.Stopped → FindsStopped me w s
stopped_actor me w s has h = to s.receiver.party refl has h
  where
    environment : (b : Bool) → (let o : Option Cause = if b then None else Some cause.EnvFull in o) ≡ Some cause.Stopped → ⊥
    environment true h = cc
    environment false h = cc

    to : (p : Party) → s.receiver.party ≡ p → HasReceiver (names_in w.actors) me p s.receiver.instance → undelivered me w p s.receiver.instance ≡ Some cause.Stopped
        → FindsStopped me w s
    to Environment is has h = absurd (environment (has_room w.ring) h)
    to (Process p) is has h =
        let a = actor_called w.actors has.number has.name has.there in
        let refused : refusal_at a.0.port a.0.standing ≡ Some cause.Stopped =
        sym (ap refusal_in a.1) ∙ sym (ap (λ (o : Option ℕ). refusal_in (found_in w.actors o)) has.found) ∙ h in
        record {
          process = p;
          to = is;
          number = has.number;
          found = has.found;
          actor = a.0;
          there = a.1;
          standing = has_stopped_there a.0 a.0.standing refl refused;
        }

actor_stopped : (me : ActorName) (w : Core) (s : Sending) → FindsStopped me w s → undelivered me w s.receiver.party s.receiver.instance ≡ Some cause.Stopped
actor_stopped me w s h =
    ap (λ (p : Party). undelivered me w p s.receiver.instance) h.to
    ∙ ap (λ (o : Option ℕ). refusal_in (found_in w.actors o)) h.found
    ∙ ap refusal_in h.there
    ∙ ap (refusal_at h.actor.port) h.standing

-- ---- losses among the outputs

-- an effect that is lost is among the losses
losses_have : (n : ℕ) (me : ActorName) (es : List Effect) (i : ℕ) (e : Effect) (c : Cause) (k : ℕ) (w : Core) → slice_get es i ≡ Some e
    → lost_by me (laid_all n me w (take i es)) (k + i) e ≡ Some (lost_at (k + i) c) → IsLost (losses n me w k es) (k + i) c
losses_have n me [] i e c k w there h = absurd (none-some e there)
losses_have n me (x ∷ es) zero e c k w there h =
    let others = losses n me (laid n me w x) (k + 1) es in
    let none : k + 0 ≡ k = omega arith in
    let told : lost_by me w k x ≡ Some (lost_at (k + 0) c) =
    ap (λ (y : Effect). lost_by me w k y) (same_Some x e there) ∙ (ap (λ (j : ℕ). lost_by me w j e) (sym none) ∙ h) in
    record { before = []; after = others; is = ap (λ (o : Option Lost). option_to_list o ++ others) told }
losses_have n me (x ∷ es) (suc i) e c k w there h =
    let more : k + suc i ≡ k + 1 + i = omega arith in
    let first = option_to_list (lost_by me w k x) in
    let r = losses_have n me es i e c (k + 1) (laid n me w x) there
    (subst (λ (j : ℕ). lost_by me (laid_all n me (laid n me w x) (take i es)) j e ≡ Some (lost_at j c)) more h) in
    record {
      before = first ++ r.before;
      after = r.after;
      is = ap (λ (xs : List Lost). first ++ xs) r.is
          ∙ sym (append_assoc first r.before (lost_at (k + 1 + i) c ∷ r.after))
          ∙ ap (λ (j : ℕ). (first ++ r.before) ++ lost_at j c ∷ r.after) (sym more);
    }

-- each loss is of an effect that is lost, at its place
abbrev IsRight : ℕ → ActorName → Core → ℕ → List Effect → Lost → Type 0
IsRight n me w k es x = (i : ℕ) (e : Effect) → slice_get es i ≡ Some e → x.place ≡ k + i → lost_by me (laid_all n me w (take i es)) x.place e ≡ Some x

loss_place : (me : ActorName) (w : Core) (k : ℕ) (e : Effect) (x : Lost) → lost_by me w k e ≡ Some x → x.place ≡ k
loss_place me w k (Output s) x h = by (undelivered me w s.receiver.party s.receiver.instance) h
  where
    by : (o : Option Cause) → lost_for k o ≡ Some x → x.place ≡ k
    by None h = absurd (none-some x h)
    by (Some c) h = ap (λ (y : Lost). y.place) (sym (same_Some (lost_at k c) x h))
loss_place me w k (Set t z) x h = absurd (none-some x h)
loss_place me w k (Reset t) x h = absurd (none-some x h)

abbrev IsFrom : ℕ → Lost → Type 0
IsFrom k x = k ≤ x.place

from_less : (k : ℕ) (xs : List Lost) → AllByRecursion (IsFrom (k + 1)) xs → AllByRecursion (IsFrom k) xs
from_less k [] all = tt
from_less k (x ∷ xs) all =
    let more : k + 1 ≤ x.place = all.0 in
    (omega arith, from_less k xs all.1)

first_from : (me : ActorName) (w : Core) (k : ℕ) (e : Effect) → AllByRecursion (IsFrom k) (option_to_list (lost_by me w k e))
first_from me w k e = by (lost_by me w k e) refl
  where
    by : (o : Option Lost) → lost_by me w k e ≡ o → AllByRecursion (IsFrom k) (option_to_list o)
    by None is = tt
    by (Some x) is = (omega (arith, loss_place me w k e x is), tt)

all_from : (n : ℕ) (me : ActorName) (es : List Effect) (k : ℕ) (w : Core) → AllByRecursion (IsFrom k) (losses n me w k es)
all_from n me [] k w = tt
all_from n me (e ∷ es) k w =
    both_parts (IsFrom k) (option_to_list (lost_by me w k e)) (losses n me (laid n me w e) (k + 1) es) (first_from me w k e)
    (from_less k (losses n me (laid n me w e) (k + 1) es) (all_from n me es (k + 1) (laid n me w e)))

first_right : (n : ℕ) (me : ActorName) (w : Core) (k : ℕ) (e : Effect) (es : List Effect) → AllByRecursion (IsRight n me w k (e ∷ es)) (option_to_list (lost_by me w k e))
first_right n me w k e es = by (lost_by me w k e) refl
  where
    one : (x : Lost) → lost_by me w k e ≡ Some x → IsRight n me w k (e ∷ es) x
    one x is zero y there at =
        ap (λ (j : ℕ). lost_by me w j y) (loss_place me w k e x is) ∙ (ap (λ (z : Effect). lost_by me w k z) (sym (same_Some e y there)) ∙ is)
    one x is (suc i) y there at = absurd (omega (arith, at, loss_place me w k e x is))

    by : (o : Option Lost) → lost_by me w k e ≡ o → AllByRecursion (IsRight n me w k (e ∷ es)) (option_to_list o)
    by None is = tt
    by (Some x) is = (one x is, tt)

later_right : (n : ℕ) (me : ActorName) (w : Core) (k : ℕ) (e : Effect) (es : List Effect) (xs : List Lost) → AllByRecursion (IsFrom (k + 1)) xs
    → AllByRecursion (IsRight n me (laid n me w e) (k + 1) es) xs → AllByRecursion (IsRight n me w k (e ∷ es)) xs
later_right n me w k e es [] from all = tt
later_right n me w k e es (x ∷ xs) from all = (one, later_right n me w k e es xs from.1 all.1)
  where
    one : IsRight n me w k (e ∷ es) x
    one zero y there at = let more : k + 1 ≤ x.place = from.0 in absurd (omega (arith, at))
    one (suc i) y there at = all.0 i y there (omega (arith, at))

all_right : (n : ℕ) (me : ActorName) (es : List Effect) (k : ℕ) (w : Core) → AllByRecursion (IsRight n me w k es) (losses n me w k es)
all_right n me [] k w = tt
all_right n me (e ∷ es) k w =
    let others = losses n me (laid n me w e) (k + 1) es in
    both_parts (IsRight n me w k (e ∷ es)) (option_to_list (lost_by me w k e)) others (first_right n me w k e es)
    (later_right n me w k e es others (all_from n me es (k + 1) (laid n me w e)) (all_right n me es (k + 1) (laid n me w e)))

-- P holds of one element among others
one_of : (P : Lost → Type 0) (before after : List Lost) (x : Lost) → AllByRecursion P (before ++ x ∷ after) → P x
one_of P [] after x all = all.0
one_of P (y ∷ before) after x all = one_of P before after x all.1

cause_of : (k : ℕ) (o : Option Cause) (c : Cause) → lost_for k o ≡ Some (lost_at k c) → o ≡ Some c
cause_of k None c h = absurd (none-some (lost_at k c) h)
cause_of k (Some x) c h = ap (λ (y : Lost). Some y.cause) (same_Some (lost_at k x) (lost_at k c) h)

module _ (w : Core) (n : ℕ) (me : ActorName) (o : Outcome) (place : ℕ) (s : Sending) (there : slice_get o.progress.effects place ≡ Some (Output s)) (c : Cause) where
  is_told : undelivered me (behind n me o w place) s.receiver.party s.receiver.instance ≡ Some c → IsLost (lost_in n me o w) place c
  unfolding lost_in
  is_told h =
      let from : 0 + place ≡ place = omega arith in
      subst (λ (j : ℕ). IsLost (losses n me (started n o w) 0 o.progress.effects) j c) from
      (losses_have n me o.progress.effects place (Output s) c 0 (started n o w) there (ap (lost_for (0 + place)) h))

  told_is : IsLost (lost_in n me o w) place c → undelivered me (behind n me o w place) s.receiver.party s.receiver.instance ≡ Some c
  unfolding lost_in
  told_is h =
      let es = o.progress.effects in
      let from : place ≡ 0 + place = omega arith in
      let right : IsRight n me (started n o w) 0 es (lost_at place c) =
      one_of (IsRight n me (started n o w) 0 es) h.before h.after (lost_at place c)
      (subst (AllByRecursion (IsRight n me (started n o w) 0 es)) h.is (all_right n me es 0 (started n o w))) in
      cause_of place (undelivered me (behind n me o w place) s.receiver.party s.receiver.instance) c (right place (Output s) there from)

-- ---- the places of the losses

-- each loss is the loss of an output
of_output : (P : ℕ → Type 0) (k : ℕ) (me : ActorName) (w : Core) (e : Effect) → ((s : Sending) → e ≡ Output s → P k)
    → AllByRecursion (λ (x : Lost). P x.place) (option_to_list (lost_by me w k e))
of_output P k me w (Output s) is = by (undelivered me w s.receiver.party s.receiver.instance)
  where
    by : (o : Option Cause) → AllByRecursion (λ (x : Lost). P x.place) (option_to_list (lost_for k o))
    by None = tt
    by (Some c) = (is s refl, tt)
of_output P k me w (Set t z) is = tt
of_output P k me w (Reset t) is = tt

at_outputs : (P : ℕ → Type 0) (n : ℕ) (me : ActorName) (es : List Effect) (k : ℕ) (w : Core) → ((i : ℕ) (s : Sending) → slice_get es i ≡ Some (Output s) → P (k + i))
    → AllByRecursion (λ (x : Lost). P x.place) (losses n me w k es)
at_outputs P n me [] k w each = tt
at_outputs P n me (e ∷ es) k w each =
    both_parts (λ (x : Lost). P x.place) (option_to_list (lost_by me w k e)) (losses n me (laid n me w e) (k + 1) es)
    (of_output P k me w e (λ s is. subst P (let f : k + 0 ≡ k = omega arith in f) (each 0 s (ap Some is))))
    (at_outputs P n me es (k + 1) (laid n me w e) (λ i s there. subst P (let f : k + suc i ≡ k + 1 + i = omega arith in f) (each (suc i) s there)))

abbrev Ascend : List Lost → Type 0
Ascend [] = Unit {0}
Ascend (x ∷ xs) = AllByRecursion (λ (y : Lost). x.place < y.place) xs × Ascend xs

all_later : (k : ℕ) (x : Lost) (xs : List Lost) → x.place ≡ k → AllByRecursion (IsFrom (k + 1)) xs → AllByRecursion (λ (y : Lost). x.place < y.place) xs
all_later k x [] is all = tt
all_later k x (y ∷ ys) is all = let from : k + 1 ≤ y.place = all.0 in (omega (arith, is), all_later k x ys is all.1)

first_ascends : (me : ActorName) (w : Core) (k : ℕ) (e : Effect) (others : List Lost) → AllByRecursion (IsFrom (k + 1)) others → Ascend others
    → (o : Option Lost) → lost_by me w k e ≡ o → Ascend (option_to_list o ++ others)
first_ascends me w k e others from up None is = up
first_ascends me w k e others from up (Some x) is = (all_later k x others (loss_place me w k e x is) from, up)

ascending : (n : ℕ) (me : ActorName) (es : List Effect) (k : ℕ) (w : Core) → Ascend (losses n me w k es)
ascending n me [] k w = tt
ascending n me (e ∷ es) k w =
    first_ascends me w k e (losses n me (laid n me w e) (k + 1) es) (all_from n me es (k + 1) (laid n me w e)) (ascending n me es (k + 1) (laid n me w e))
    (lost_by me w k e) refl

in_order : (es : List Effect) (xs : List Lost) → AllByRecursion (λ (x : Lost). IsOutput es x.place) xs → Ascend xs → AreInOrder es xs
in_order es [] outputs up = tt
in_order es (x ∷ xs) outputs up = (outputs.0, up.0, in_order es xs outputs.1 up.1)

told_in_order : (w : Core) (n : ℕ) (me : ActorName) (o : Outcome) → AreInOrder o.progress.effects (lost_in n me o w)
unfolding lost_in
told_in_order w n me o =
    let es = o.progress.effects in
    in_order es (losses n me (started n o w) 0 es)
    (at_outputs (IsOutput es) n me es 0 (started n o w) (λ i s at. record { sending = s; there = ap (slice_get es) (let f : 0 + i ≡ i = omega arith in f) ∙ at }))
    (ascending n me es 0 (started n o w))

pub full_law : FullLaw
full_law = record {
  offer = λ m b o. (full_offer m b o, offer_full m b o);
  port = λ w n me o place s there. (
    λ h. full_port me (behind n me o w place) s (told_is w n me o place s there cause.Full h),
    λ h. is_told w n me o place s there cause.Full (port_full me (behind n me o w place) s h),
  );
  environment = λ w n me o place s there. (
    λ h. full_ring me (behind n me o w place) s (told_is w n me o place s there cause.EnvFull h),
    λ h. is_told w n me o place s there cause.EnvFull (ring_full me (behind n me o w place) s h),
  );
  stopped = λ w n me o place s there has. (
    λ h. stopped_actor me (behind n me o w place) s
        (subst (λ (names : List ActorName). HasReceiver names me s.receiver.party s.receiver.instance) (sym (behind_names n me o w place)) has)
        (told_is w n me o place s there cause.Stopped h),
    λ h. is_told w n me o place s there cause.Stopped (actor_stopped me (behind n me o w place) s h),
  );
  order = told_in_order;
}
