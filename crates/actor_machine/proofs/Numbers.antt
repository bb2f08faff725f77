-- The numbers of the turns that are out.
use Rattle.std.proofs.Common.{◌≡◌, ◌≢◌, ℕ, ◌+◌, ◌<◌, ◌≤◌, ◌⊎◌, inl, inr, List, [], ◌∷◌, Option, Some, None, refl, sym, ap, ◌∙◌, subst, arith}
use Rattle.std.specs.Prelude.{slice_get, Result, Ok, Err}
use Rattle.std.proofs.lemmas.Option.{same_Some, none-some}
use Rattle.turn_code.specs.Outcome.{Outcome}
use Rattle.turn_code.specs.Safe.{SafeLaw, RunLaw}
use Rattle.turn_code.specs.Transitions.{Transition, transition_at}
use Rattle.turn_code.specs.declared.draft.Draft.{Draft}
use Rattle.turn_code.specs.declared.draft.DraftProcess.{DraftProcess}
use Rattle.turn_code.specs.declared.effect.Effect.{Effect}
use Rattle.turn_code.specs.declared.effect.Effect.TheVariants.{Output, Set, Reset}
use Rattle.turn_code.specs.declared.effect.Sending.{Sending}
use Rattle.turn_code.specs.declared.input.Party.{Party}
use Rattle.turn_code.specs.declared.input.Party.TheVariants.{Environment, Process}
use Rattle.turn_code.specs.declared.input.Place.{Place}
use Rattle.turn_code.specs.declared.numbers.InstanceNumber.{InstanceNumber}
use Rattle.turn_code.specs.declared.numbers.ProcessNumber.{ProcessNumber}
use Rattle.turn_code.specs.declared.trouble.Trouble.{Trouble}
use Rattle.actor_machine.specs.Names.{number_for}
use Rattle.actor_machine.specs.declared.name.ActorName.{ActorName}
use Rattle.turn_code.specs.declared.machine.End.{End}
use Rattle.turn_code.specs.declared.machine.End.TheVariants.{State, Stop}
use Rattle.turn_machine.specs.Turn.{Turn, turn_of}
use Rattle.input_port.specs.declared.queue.Arrival.{Arrival}
use Rattle.tick_wheel.specs.declared.Due.{Due}
use Rattle.actor_machine.specs.Core.{Core, change, change_found, names_in}
use Rattle.actor_machine.specs.Looking.{begun, skipped, given_now}
use Rattle.actor_machine.specs.Effects.{arrival_of, reached, receives, drops, hears, delivered, laid, laid_all, settled, moved, started, finished}
use Rattle.actor_machine.specs.Refusals.{refuses}
use Rattle.actor_machine.specs.Step.{Stepped, step, finish_by, finish_at, result_given, offered_arrival, notified, due_in, passed}
use Rattle.actor_machine.specs.Ledger.{Ledger, runs, state_of, refusal_by, asked, ask, ask_by, room, rebased, after_by, turn_with, turn_given, turn_at, turn_out}
use Rattle.actor_machine.specs.Kept.{HasOut, AreNumbered, IsKept, opened_from, opened}
use Rattle.actor_machine.specs.Laws.{IsOver, OverLaw}
use Rattle.actor_machine.specs.declared.actor.Actor.{Actor}
use Rattle.actor_machine.specs.declared.actor.Given.{Given}
use Rattle.actor_machine.specs.declared.actor.Standing.{Standing}
use Rattle.actor_machine.specs.declared.actor.Standing.TheVariants.{At, Stopped}
use Rattle.actor_machine.specs.declared.event.Event.{Event}
use Rattle.actor_machine.specs.declared.event.Event.TheVariants.{Offer, Begin, Skip, Finish, Advance, TakeEnv}
use Rattle.actor_machine.specs.declared.reply.Refusal.{Refusal}
use Rattle.actor_machine.proofs.Replays.{with_event, ask_set, state_more, state_law, fits_law}
use Rattle.actor_machine.proofs.Ends.{turn_ends, passes_otherwise, out_law}
use Rattle.actor_machine.proofs.Counts.{same_laid_all, same_ended}
use Rattle.actor_machine.proofs.FitsLists.{change_each}
use Rattle.actor_machine.proofs.Opened.{opened_all, each_of}

-- ---- one actor changes

-- each turn that is out among the actors xs is out among ys
abbrev pub Fewer : List Actor → List Actor → Type 0
Fewer xs ys = (k : ℕ) (g : Given) → HasOut xs k g → HasOut ys k g

-- a turn that is out after one actor changed was out before
changed_out : (W : ℕ → Given → Type 0) (xs : List Actor) (n : ℕ) (f : Actor → Actor)
    → ((k : ℕ) (g : Given) → k ≢ n → HasOut xs k g → W k g)
    → ((a : Actor) (g : Given) → slice_get xs n ≡ Some a → (f a).given ≡ Some g → W n g)
    → (k : ℕ) (g : Given) → HasOut (change xs n f) k g → W k g
changed_out W xs n f others one k g h =
    change_each (λ (k : ℕ) (a : Actor). slice_get xs k ≡ Some a) (λ (k : ℕ) (a : Actor). (g : Given) → a.given ≡ Some g → W k g) xs n f (λ k a e. e)
    (λ k a other there g e. others k g other (record { actor = a; there = there; out = e })) (λ a there _ g e. one a g there e)
    k h.actor h.there g h.out

fewer_change : (f : Actor → Actor) (xs : List Actor) (n : ℕ) → ((a : Actor) → (f a).given ≡ a.given) → Fewer (change xs n f) xs
fewer_change f xs n same = changed_out (λ (k : ℕ) (g : Given). HasOut xs k g) xs n f (λ k g other h. h) (λ a g there e. record { actor = a; there = there; out = sym (same a) ∙ e })

fewer_found : (f : Actor → Actor) (xs : List Actor) (o : Option ℕ) → ((a : Actor) → (f a).given ≡ a.given) → Fewer (change_found xs o f) xs
fewer_found f xs None same = λ k g h. h
fewer_found f xs (Some n) same = fewer_change f xs n same

receives_given : (arrival : Arrival) (a : Actor) → (receives arrival a).given ≡ a.given
receives_given arrival a = by a.standing
  where
    by : (s : Standing) → (reached a arrival s).given ≡ a.given
    by (At s) = refl
    by Stopped = refl

skipped_given : (d : Draft) (a : Actor) → (skipped d a).given ≡ a.given
unfolding skipped
skipped_given d a = refl

moved_given : (e : End) (a : Actor) → (moved e a).given ≡ a.given
moved_given (State q) a = refl
moved_given Stop a = refl

begun_given : (d : Draft) (turn : ℕ) (a : Actor) (g : Given) → (begun d turn a).given ≡ Some g → g.turn ≡ turn
unfolding begun given_now
begun_given d turn a g e = sym (ap (λ (x : Given). x.turn) (same_Some (given_now d turn a) g e))

-- ---- a turn that ends

fewer_delivered : (me : ActorName) (w : Core) (s : Sending) (p : Party) (k : Option InstanceNumber) → Fewer (delivered me w s p k).actors w.actors
fewer_delivered me w s Environment i = λ k g h. h
fewer_delivered me w s (Process m) i = fewer_found (receives (arrival_of me s)) w.actors (number_for (names_in w.actors) me m i) (receives_given (arrival_of me s))

fewer_laid : (n : ℕ) (me : ActorName) (w : Core) (e : Effect) → Fewer (laid n me w e).actors w.actors
fewer_laid n me w (Output s) = fewer_delivered me w s s.receiver.party s.receiver.instance
fewer_laid n me w (Set t z) = fewer_change (drops t.0) w.actors n (λ a. refl)
fewer_laid n me w (Reset t) = fewer_change (drops t.0) w.actors n (λ a. refl)

fewer_laid_all : (n : ℕ) (me : ActorName) (es : List Effect) (w : Core) → Fewer (laid_all n me w es).actors w.actors
fewer_laid_all n me [] w = λ k g h. h
fewer_laid_all n me (e ∷ es) w = λ k g h. fewer_laid n me w e k g (fewer_laid_all n me es (laid n me w e) k g h)

-- the other actors have the same turns out, and actor n has none
out_finished : (n : ℕ) (me : ActorName) (o : Outcome) (w : Core) (k : ℕ) (g : Given) → HasOut (finished n me o w).actors k g → (k ≢ n) × HasOut w.actors k g
unfolding finished
out_finished n me o w k g h =
    changed_out (λ (k : ℕ) (g : Given). (k ≢ n) × HasOut w.actors k g) w.actors n (settled o) (λ k g other h. (other, h)) (λ a g there e. absurd (none-some g e)) k g
    (fewer_laid_all n me o.progress.effects (started n o w) k g
    (fewer_change (moved o.end) (laid_all n me (started n o w) o.progress.effects).actors n (moved_given o.end) k g h))

turns_finished : (n : ℕ) (me : ActorName) (o : Outcome) (w : Core) → (finished n me o w).turns ≡ w.turns
unfolding finished
turns_finished n me o w =
    (same_ended n o.end (laid_all n me (started n o w) o.progress.effects)).turns ∙ (same_laid_all n me (started n o w) o.progress.effects).turns

-- ---- one event

-- the event begins this turn
record IsNew (actor : ℕ) (v w : Core) (k : ℕ) (g : Given) : Type 0 where
  at : k ≡ actor
  number : g.turn ≡ w.turns
  next : v.turns ≡ w.turns + 1

-- how an event changes the turns that are out, from state w to v
record Turns (v w : Core) : Type 0 where
  actor : ℕ
  grows : w.turns ≤ v.turns
  each : (k : ℕ) (g : Given) → HasOut v.actors k g → HasOut w.actors k g ⊎ IsNew actor v w k g

no_more : (v w : Core) → v.turns ≡ w.turns → Fewer v.actors w.actors → Turns v w
no_more v w same fewer = record { actor = 0; grows = omega (arith, same); each = λ k g h. inl (fewer k g h) }

turns_finish : (n : ℕ) (me : ActorName) (w : Core) (r : Option (Result Outcome Trouble)) → Turns (finish_by n me w r).to w
turns_finish n me w None = no_more w w refl (λ k g h. h)
turns_finish n me w (Some (Err x)) = no_more w w refl (λ k g h. h)
turns_finish n me w (Some (Ok o)) = no_more (finished n me o w) w (turns_finished n me o w) (λ k g h. (out_finished n me o w k g h).1)

turns_finish_at : (d : Draft) (n : ℕ) (w : Core) (o : Option Actor) → Turns (finish_at (runs d) n w o).to w
turns_finish_at d n w None = no_more w w refl (λ k g h. h)
turns_finish_at d n w (Some a) = turns_finish n a.name w (result_given (runs d) a.name.process.0 a.standing a.given)

fewer_notified : (xs : List Due) (actors : List Actor) → Fewer (notified actors xs) actors
fewer_notified [] actors = λ k g h. h
fewer_notified (x ∷ xs) actors = λ k g h.
    fewer_change (hears x.timer.number) actors x.timer.actor (λ a. refl) k g
    (fewer_notified xs (change actors x.timer.actor (hears x.timer.number)) k g h)

turns_step : (d : Draft) (w : Core) (e : Event) → Turns (step d (runs d) w e).to w
unfolding step passed
turns_step d w (Offer o) = no_more (step d (runs d) w (Offer o)).to w refl (fewer_change (receives (offered_arrival o)) w.actors o.actor (receives_given (offered_arrival o)))
turns_step d w (Begin n) =
    let v : Core = (step d (runs d) w (Begin n)).to in
    record {
      actor = n;
      grows = omega arith;
      each = changed_out (λ (k : ℕ) (g : Given). HasOut w.actors k g ⊎ IsNew n v w k g) w.actors n (begun d w.turns) (λ k g other h. inl h)
          (λ a g there e. inr (record { at = refl; number = begun_given d w.turns a g e; next = refl }));
    }
turns_step d w (Skip n) = no_more (step d (runs d) w (Skip n)).to w refl (fewer_change (skipped d) w.actors n (skipped_given d))
turns_step d w (Finish n) = turns_finish_at d n w (slice_get w.actors n)
turns_step d w (Advance k) = no_more (passed k w) w refl (fewer_notified (due_in w k) w.actors)
turns_step d w TakeEnv = no_more (step d (runs d) w TakeEnv).to w refl (λ k g h. h)

-- ---- turns have different numbers

numbered_next : (v w : Core) → Turns v w → AreNumbered w → AreNumbered v
numbered_next v w t h = record {
  below = λ n g out. below n g (t.each n g out);
  apart = λ m n f g one other same. apart m n f g (t.each m f one) (t.each n g other) same;
}
  where
    below : (n : ℕ) (g : Given) → HasOut w.actors n g ⊎ IsNew t.actor v w n g → g.turn < v.turns
    below n g (inl out) =
        let under : g.turn < w.turns = h.below n g out in
        let grows : w.turns ≤ v.turns = t.grows in
        omega arith
    below n g (inr new) = omega (arith, new.number, new.next)

    apart : (m n : ℕ) (f g : Given) → HasOut w.actors m f ⊎ IsNew t.actor v w m f → HasOut w.actors n g ⊎ IsNew t.actor v w n g → f.turn ≡ g.turn → m ≡ n
    apart m n f g (inl one) (inl other) same = h.apart m n f g one other same
    apart m n f g (inl one) (inr new) same =
        let under : f.turn < w.turns = h.below m f one in
        let number : g.turn ≡ w.turns = new.number in
        absurd (omega arith)
    apart m n f g (inr new) (inl other) same =
        let under : g.turn < w.turns = h.below n g other in
        let number : f.turn ≡ w.turns = new.number in
        absurd (omega arith)
    apart m n f g (inr new) (inr newer) same = new.at ∙ sym newer.at

pub numbered_step : (d : Draft) (w : Core) (e : Event) → AreNumbered w → AreNumbered (step d (runs d) w e).to
numbered_step d w e h = numbered_next (step d (runs d) w e).to w (turns_step d w e) h

none_opened : (port : ℕ) (ps : List DraftProcess) (n : ℕ) (g : Given) → HasOut (opened_from port 0 ps) n g → ⊥
none_opened port ps n g h =
    none-some g (sym (each_of (λ (a : Actor). a.given ≡ None) (opened_from port 0 ps) (opened_all (λ (a : Actor). a.given ≡ None) port 0 ps (λ k p x there e. refl)) n h.actor h.there) ∙ h.out)

pub numbered_opened : (d : Draft) (port env : ℕ) → AreNumbered (opened d port env)
unfolding opened
numbered_opened d port env = record {
  below = λ n g out. absurd (none_opened port d.processes n g out);
  apart = λ m n f g one other same. absurd (none_opened port d.processes m f one);
}

-- ---- turns that are over

-- the turn that actor n has out, with the number of t
record IsGiven (actors : List Actor) (n : ℕ) (t : Turn) : Type 0 where
  given : Given
  out : HasOut actors n given
  number : given.turn ≡ t.turn

turn_number : (n : ℕ) (p : ProcessNumber) (s : Place) (g : Given) (q : Option Transition) (t : Turn) → turn_with n p s g q ≡ Some t → g.turn ≡ t.turn
turn_number n p s g None t e = absurd (none-some t e)
turn_number n p s g (Some x) t e =
    ap (λ (u : Turn). u.turn) (same_Some (turn_of n g.turn p s g.number x.piece.code x.piece.certificate g.input) t e)

-- the given turn has the number of t
record HasNumber (o : Option Given) (t : Turn) : Type 0 where
  given : Given
  there : o ≡ Some given
  number : given.turn ≡ t.turn

given_number : (d : Draft) (n : ℕ) (p : ProcessNumber) (s : Standing) (g : Option Given) (t : Turn) → turn_given d n p s g ≡ Some t → HasNumber g t
given_number d n p (At s) None t e = absurd (none-some t e)
given_number d n p (At s) (Some g) t e = record { given = g; there = refl; number = turn_number n p s g (transition_at d p.0 s g.number) t e }
given_number d n p Stopped g t e = absurd (none-some t e)

turn_is_given : (d : Draft) (actors : List Actor) (n : ℕ) (t : Turn) → turn_at d n (slice_get actors n) ≡ Some t → IsGiven actors n t
turn_is_given d actors n t e = by (slice_get actors n) refl e
  where
    by : (o : Option Actor) → slice_get actors n ≡ o → turn_at d n o ≡ Some t → IsGiven actors n t
    by None there e = absurd (none-some t e)
    by (Some a) there e =
        let has : HasNumber a.given t = given_number d n a.name.process a.standing a.given t e in
        record { given = has.given; out = record { actor = a; there = there; out = has.there }; number = has.number }

over_next : (v w : Core) (turn : ℕ) → Turns v w → IsOver w turn → IsOver v turn
over_next v w turn t h =
    let began : turn < w.turns = h.began in
    let grows : w.turns ≤ v.turns = t.grows in
    record { began = omega arith; nowhere = λ n g out. nowhere n g (t.each n g out) }
  where
    nowhere : (n : ℕ) (g : Given) → HasOut w.actors n g ⊎ IsNew t.actor v w n g → g.turn ≢ turn
    nowhere n g (inl out) = h.nowhere n g out
    nowhere n g (inr new) = λ same.
        let began : turn < w.turns = h.began in
        let number : g.turn ≡ w.turns = new.number in
        omega arith

over_asked : (b : Ledger) (e : Event) (s : Stepped) (o : Option Refusal) (turn : ℕ) → IsOver (state_of b) turn → IsOver (state_of (with_event b e)) turn
    → IsOver (state_of (asked b e s o).book) turn
over_asked b e s None turn was is = is
over_asked b e s (Some r) turn was is = was

over_ask : (b : Ledger) (e : Event) (turn : ℕ) → IsOver (state_of b) turn → IsOver (state_of (ask b e).book) turn
unfolding ask_by
over_ask b e turn h =
    over_asked b e (step b.set (runs b.set) (state_of b) e) (refusal_by (runs b.set) b e) turn h
    (subst (λ (w : Core). IsOver w turn) (sym (state_more b e))
    (over_next (step b.set (runs b.set) (state_of b) e).to (state_of b) turn (turns_step b.set (state_of b) e) h))

over_finished : (n : ℕ) (me : ActorName) (o : Outcome) (w : Core) (t : Turn) → AreNumbered w → IsGiven w.actors n t → IsOver (finished n me o w) t.turn
over_finished n me o w t numbers is =
    let same : is.given.turn ≡ t.turn = is.number in
    let under : is.given.turn < w.turns = numbers.below n is.given is.out in
    let turns : (finished n me o w).turns ≡ w.turns = turns_finished n me o w in
    record {
      began = omega arith;
      nowhere = λ k g out equal.
          let others = out_finished n me o w k g out in
          others.0 (numbers.apart k n g is.given others.1 is.out (equal ∙ sym same));
    }

over_finish : SafeLaw → RunLaw → (b : Ledger) (n : ℕ) (t : Turn) → IsKept b → turn_out b n ≡ Some t → IsOver (state_of (ask b (Finish n)).book) t.turn
unfolding turn_out step
over_finish safe law b n t kept h =
    let w : Core = state_of b in
    let accepted : refusal_by (runs b.set) b (Finish n) ≡ None = out_law.own b n t kept h in
    let e = turn_ends safe law b.set w n kept.stands.valid (fits_law b kept) (passes_otherwise (room b w) (Finish n) (refuses b.set w (Finish n)) accepted) in
    subst (λ (v : Core). IsOver v t.turn) (sym (state_law b (Finish n) accepted))
    (subst (λ (x : Stepped). IsOver x.to t.turn) (sym e.ended)
    (over_finished n e.actor.name e.outcome w t kept.numbered (turn_is_given b.set w.actors n t h)))

over_by : (d : Draft) (b : Ledger) (es : List Event) (turn : ℕ) → b.set ≡ d → IsOver (state_of b) turn → IsOver (state_of (after_by (runs d) b es)) turn
over_by d b [] turn same h = h
over_by d b (e ∷ es) turn same h =
    over_by d (ask_by (runs d) b e).book es turn (ask_set (runs d) b e ∙ same)
    (subst (λ (x : Draft). IsOver (state_of (ask_by (runs x) b e).book) turn) same (over_ask b e turn h))

over_rebase : (b : Ledger) (turn : ℕ) → IsOver (state_of b) turn → IsOver (state_of (rebased b)) turn
unfolding rebased
over_rebase b turn h = h

over_turn : (b : Ledger) (n : ℕ) (t : Turn) → IsOver (state_of b) t.turn → turn_out b n ≡ Some t → ⊥
unfolding turn_out
over_turn b n t h out =
    let is = turn_is_given b.set (state_of b).actors n t out in
    h.nowhere n is.given is.out is.number

pub over_law : SafeLaw → RunLaw → OverLaw
over_law safe law = record {
  ends = over_finish safe law;
  asks = over_ask;
  lists = λ b es turn h. over_by b.set b es turn refl h;
  rebases = over_rebase;
  none = over_turn;
}
