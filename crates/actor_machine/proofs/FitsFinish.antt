-- A turn that ends leaves all fitting.
use Rattle.std.proofs.Common.{◌≡◌, ◌≢◌, inr, ℕ, zero, suc, Bool, true, false, if◌then◌else◌, List, [], ◌∷◌, ◌++◌, Option, Some, None, refl, sym, ap, ◌∙◌, subst}
use Rattle.std.specs.Prelude.{slice_get, option_map, Any, Result, Ok}
use Rattle.std.specs.List.{AllByRecursion}
use Rattle.std.proofs.lemmas.Option.{same_Some}
use Rattle.turn_code.specs.Routes.{the_process, Carries, Brings, Reaches}
use Rattle.turn_code.specs.Transitions.{Transition, transition_at, process_at, input_at, start_at, start_of, input_of}
use Rattle.turn_code.specs.Valid.{IsValid}
use Rattle.turn_code.specs.Fits.{HaveSorts, Fits}
use Rattle.turn_code.specs.Safe.{EndsWell, EndIsReady, RunLaw}
use Rattle.turn_code.specs.Effects.{IsRightSending, IsRightEffect, AreRightEffects, EffectsLaw}
use Rattle.turn_code.specs.Outcome.{Outcome, result_in}
use Rattle.turn_code.specs.declared.trouble.Trouble.{Trouble}
use Rattle.turn_code.specs.declared.value.Value.{Value}
use Rattle.turn_code.specs.declared.numbers.ProcessNumber.{ProcessNumber}
use Rattle.turn_code.specs.declared.input.Place.{Place}
use Rattle.turn_code.specs.declared.input.Place.TheVariants.{Start, State}
use Rattle.turn_code.specs.declared.input.Party.{Party}
use Rattle.turn_code.specs.declared.input.Party.TheVariants.{Environment, Process}
use Rattle.turn_code.specs.declared.effect.Effect.{Effect}
use Rattle.turn_code.specs.declared.effect.Effect.TheVariants.{Output, Set, Reset}
use Rattle.turn_code.specs.declared.effect.Sending.{Sending}
use Rattle.turn_code.specs.declared.machine.End.{End}
use Rattle.turn_code.specs.declared.machine.End.TheVariants.{State as Next, Stop}
use Rattle.turn_code.specs.declared.draft.Draft.{Draft}
use Rattle.turn_code.specs.declared.draft.DraftSignal.{DraftSignal}
use Rattle.turn_code.specs.declared.draft.DraftProcess.{DraftProcess}
use Rattle.turn_code.specs.declared.draft.DraftState.{DraftState}
use Rattle.turn_code.specs.declared.draft.DraftInput.{DraftInput}
use Rattle.actor_machine.specs.Names.{actors_of, number_for}
use Rattle.actor_machine.specs.declared.name.ActorName.{ActorName}
use Rattle.actor_machine.proofs.NameStanding.{right_process}
use Rattle.actor_machine.specs.Core.{Core, Ring, change, names_in}
use Rattle.actor_machine.specs.Effects.{arrival_of, emitted_of, has_room, delivered, receives, drops, laid, laid_all, delay, without, settled, moved, timers_after, ended, started, finished}
use Rattle.actor_machine.specs.Fits.{Arrived, IsReadyAt, GivenFits, GivenBy, IsCalled, EmittedFits, CoreFits}
use Rattle.actor_machine.specs.Step.{result_given, finish_by, finish_at}
use Rattle.actor_machine.specs.Ledger.{run_of, runs}
use Rattle.actor_machine.specs.declared.actor.Actor.{Actor}
use Rattle.actor_machine.specs.declared.actor.Given.{Given}
use Rattle.actor_machine.specs.declared.actor.Standing.{Standing}
use Rattle.actor_machine.specs.declared.actor.Standing.TheVariants.{At, Stopped}
use Rattle.actor_machine.specs.declared.reply.Emitted.{Emitted}
use Rattle.actor_machine.proofs.FitsLists.{NamesStay, change_each, names_change, name_there, name_is}
use Rattle.actor_machine.proofs.FitsActors.{Asked, Sits, LinkSits, Rests, link_of, core_of, sits_receives, sits_drops, with_actors, with_found, receives_stay, drops_stay}
use Rattle.actor_machine.proofs.FitsTimers.{part_fits, until_fits, without_part, after_part}
use Rattle.plain_laws.proofs.Lists.{each_push as all_push}

-- ---- a transition's process

-- the transition belongs to process n, which is p
pub record IsOf (n : ℕ) (p : DraftProcess) (t : Transition) : Type 0 where
  pub number : t.number ≡ n
  pub process : t.process ≡ p

started_of : (n : ℕ) (p : DraftProcess) (i : ℕ) (t : Transition) → start_at n p i ≡ Some t → IsOf n p t
started_of n p zero t e = subst (IsOf n p) (same_Some (start_of n p) t e) (record { number = refl; process = refl })
started_of n p (suc i) t e = cc

waited_of : (ss : List DraftSignal) (n : ℕ) (p : DraftProcess) (i : ℕ) (t : Transition) (o : Option DraftState) → input_at ss n p i o ≡ Some t → IsOf n p t
waited_of ss n p i t None e = cc
waited_of ss n p i t (Some q) e = by (slice_get q.inputs i) e
  where
    by : (o : Option DraftInput) → option_map (input_of ss n p q) o ≡ Some t → IsOf n p t
    by None e = cc
    by (Some x) e = subst (IsOf n p) (same_Some (input_of ss n p q x) t e) (record { number = refl; process = refl })

-- the process of a transition of the draft
pub transition_of : (d : Draft) (n : ℕ) (s : Place) (i : ℕ) (t : Transition) → transition_at d n s i ≡ Some t
    → (t.number ≡ n) × (slice_get d.processes n ≡ Some t.process)
transition_of d n s i t e = by (slice_get d.processes n) s e
  where
    of : (p : DraftProcess) → IsOf n p t → (t.number ≡ n) × (Some p ≡ Some t.process)
    of p h = (h.number, ap Some (sym h.process))

    by : (o : Option DraftProcess) (s : Place) → process_at d.signals n s i o ≡ Some t → (t.number ≡ n) × (o ≡ Some t.process)
    by None s e = cc
    by (Some p) Start e = of p (started_of n p i t e)
    by (Some p) (State q) e = of p (waited_of d.signals n p i t (slice_get p.states q.0) e)

-- ---- the effects

sending_arrives : (d : Draft) (n : ℕ) (me : ActorName) (t : Transition) (s : Sending) (m : ProcessNumber) → t.number ≡ me.process.0 → IsCalled d n me
    → s.receiver.party ≡ Process m → IsRightSending d t s → Arrived d m.0 (arrival_of me s)
sending_arrives d n me t s m number called to right = record {
  there = right.signal;
  sorts = right.parameters;
  sender = inr (record { number = n; name = me; called = called; is = refl });
  brought = subst (λ (k : ℕ). Any (Brings (the_process k) m.0 s.signal) d.routes) number
      (subst (λ (p : Party). Any (Carries (the_process t.number) p s.signal) d.routes) to right.reaches);
}

sending_leaves : (d : Draft) (n : ℕ) (me : ActorName) (t : Transition) (s : Sending) → t.number ≡ me.process.0 → IsCalled d n me → s.receiver.party ≡ Environment
    → IsRightSending d t s → EmittedFits d (emitted_of me s)
sending_leaves d n me t s number called to right = record {
  number = n;
  sender = called;
  there = right.signal;
  sorts = right.parameters;
  reaches = subst (λ (k : ℕ). Reaches d.routes k Environment s.signal) number (subst (λ (p : Party). Reaches d.routes t.number p s.signal) to right.reaches);
}

-- the environment's ring with one more signal, if there is room
emitted_fits : (d : Draft) (r : Ring) (x : Emitted) (b : Bool) → AllByRecursion (EmittedFits d) r.items → EmittedFits d x
    → AllByRecursion (EmittedFits d) (if b then record r { items = r.items ++ x ∷ [] } else r).items
emitted_fits d r x true all one = all_push (EmittedFits d) r.items x all one
emitted_fits d r x false all one = all

module _ (d : Draft) (R : Asked) (n : ℕ) (me : ActorName) (t : Transition) (number : t.number ≡ me.process.0) (called : IsCalled d n me)
    (there : slice_get d.processes me.process.0 ≡ Some t.process) where
  -- the receiver of a signal to a process belongs to that process
  arrives_at : (w : Core) (s : Sending) (m : ProcessNumber) (j : ℕ) (a : Actor) → IsRightSending d t s → s.receiver.party ≡ Process m
      → number_for (names_in w.actors) me m s.receiver.instance ≡ Some j → slice_get w.actors j ≡ Some a → Arrived d a.name.process.0 (arrival_of me s)
  arrives_at w s m j a right to found at =
      let of = right_process (names_in w.actors) me m s.receiver.instance j found in
      let own : a.name ≡ of.name = name_is w.actors j a of.name at of.there in
      let same : m ≡ a.name.process = sym (ap (λ (x : ActorName). x.process) own ∙ of.process) in
      subst (λ (q : ProcessNumber). Arrived d q.0 (arrival_of me s)) same (sending_arrives d n me t s m number called to right)

  delivered_sits : (w : Core) (s : Sending) → LinkSits d R w → IsRightSending d t s → LinkSits d R (delivered me w s s.receiver.party s.receiver.instance)
  delivered_sits w s sits right = by s.receiver.party refl
    where
      by : (p : Party) → s.receiver.party ≡ p → LinkSits d R (delivered me w s p s.receiver.instance)
      by Environment e = record {
        each = sits.each;
        names = sits.names;
        timers = sits.timers;
        ring = emitted_fits d w.ring (emitted_of me s) (has_room w.ring) sits.ring (sending_leaves d n me t s number called e right);
      }
      by (Process m) e =
          with_found d R w (number_for (names_in w.actors) me m s.receiver.instance) (receives (arrival_of me s)) (receives_stay (arrival_of me s)) sits
          (λ j a found at h. sits_receives d R j a h (arrival_of me s) (arrives_at w s m j a right e found at))

  dropped_sits : (w : Core) (timer : ℕ) → LinkSits d R w → LinkSits d R (record w { actors = change w.actors n (drops timer) })
  dropped_sits w timer sits = with_actors d R w n (drops timer) (drops_stay timer) sits (λ a there h. sits_drops d R n a h timer)

  laid_sits : (w : Core) (e : Effect) → LinkSits d R w → IsRightEffect d t e → LinkSits d R (laid n me w e)
  laid_sits w (Output s) sits right = delivered_sits w s sits right
  laid_sits w (Set timer z) sits right =
      let dropped = dropped_sits w timer.0 sits in
      record { each = dropped.each; names = dropped.names; timers = until_fits d w.timers n timer.0 (delay z) me t.process called there right sits.timers; ring = sits.ring }
  laid_sits w (Reset timer) sits right =
      let dropped = dropped_sits w timer.0 sits in
      record { each = dropped.each; names = dropped.names; timers = part_fits d (without w.timers n timer.0).deadlines w.timers.deadlines (without_part w.timers n timer.0) sits.timers; ring = sits.ring }

  all_laid_sits : (es : List Effect) (w : Core) → LinkSits d R w → AreRightEffects d t es → LinkSits d R (laid_all n me w es)
  all_laid_sits [] w sits right = sits
  all_laid_sits (e ∷ es) w sits right = all_laid_sits es (laid n me w e) (laid_sits w e sits right.0) right.1

-- ---- the beginning and the end of a turn's effects

-- the properties while the turn of actor m takes effect: m has the new variables and no turn out; all others are at
-- rest
abbrev pub Acts : Draft → ℕ → List (Option Value) → Asked
Acts d m now n k p s vs g = (n ≢ m → Rests d n k p s vs g) × (n ≡ m → (vs ≡ now) × (g ≡ None))

pub settled_stays : (o : Outcome) → NamesStay (settled o)
unfolding NamesStay
settled_stays o a = refl

moved_stays : (e : End) → NamesStay (moved e)
unfolding NamesStay
moved_stays (Next q) a = refl
moved_stays Stop a = refl

module _ (d : Draft) (n : ℕ) (me : ActorName) (t : Transition) (called : IsCalled d n me) (there : slice_get d.processes me.process.0 ≡ Some t.process) where
  -- the actor belongs to the transition's process
  own_process : (w : Core) (R : Asked) (a : Actor) → LinkSits d R w → slice_get w.actors n ≡ Some a → slice_get d.processes a.name.process.0 ≡ Some t.process
  own_process w R a sits e =
      let own : a.name ≡ me = name_is w.actors n a me e (ap (λ (xs : List ActorName). slice_get xs n) sits.names ∙ called) in
      ap (λ (x : ActorName). slice_get d.processes x.process.0) own ∙ there

  starts : (w : Core) (o : Outcome) → LinkSits d (Rests d) w → HaveSorts t.process.variables o.progress.variables
      → LinkSits d (Acts d n o.progress.variables) (started n o w)
  starts w o sits sorts = record {
    each = change_each (Sits d (Rests d)) (Sits d (Acts d n o.progress.variables)) w.actors n (settled o) sits.each
        (λ k a other h. record { process = h.process; there = h.there; variables = h.variables; rest = (λ _. h.rest, λ e. absurd (other e)); items = h.items })
        (λ a e h. record {
          process = h.process;
          there = h.there;
          variables = subst (λ (p : DraftProcess). HaveSorts p.variables o.progress.variables)
              (same_Some t.process h.process (sym (own_process w (Rests d) a sits e) ∙ h.there)) sorts;
          rest = (λ ne. absurd (ne refl), λ _. (refl, refl));
          items = h.items;
        });
    names = names_change w.actors n (settled o) (settled_stays o) ∙ sits.names;
    timers = sits.timers;
    ring = sits.ring;
  }

  moves : (e : End) (a : Actor) (now : List (Option Value)) → slice_get d.processes a.name.process.0 ≡ Some t.process → EndIsReady t e now → Sits d (Acts d n now) n a
      → Sits d (Rests d) n (moved e a)
  moves Stop a now mine_is ready h =
      let mine = h.rest.1 refl in
      record { process = h.process; there = h.there; variables = h.variables; rest = (tt, subst (GivenFits d a.name.process.0 Stopped) (sym mine.1) tt, subst (GivenBy d) (sym mine.1) tt); items = tt }
  moves (Next q) a now mine_is ready h =
      let mine = h.rest.1 refl in
      let same : t.process ≡ h.process = same_Some t.process h.process (sym mine_is ∙ h.there) in
      let is_ready : IsReadyAt h.process q.0 a.variables.items = subst (λ (p : DraftProcess). IsReadyAt p q.0 a.variables.items) same
      (subst (IsReadyAt t.process q.0) (sym mine.0) (record { state = ready.state; there = ready.there; set = ready.set })) in
      record { process = h.process; there = h.there; variables = h.variables; rest = (is_ready, subst (GivenFits d a.name.process.0 (At (State q))) (sym mine.1) tt, subst (GivenBy d) (sym mine.1) tt); items = h.items }

  ends : (w : Core) (e : End) (now : List (Option Value)) → LinkSits d (Acts d n now) w → EndIsReady t e now → LinkSits d (Rests d) (ended n e w)
  ends w e now sits ready = record {
    each = change_each (Sits d (Acts d n now)) (Sits d (Rests d)) w.actors n (moved e) sits.each
        (λ k a other h. record { process = h.process; there = h.there; variables = h.variables; rest = h.rest.0 other; items = h.items })
        (λ a at h. moves e a now (own_process w (Acts d n now) a sits at) ready h);
    names = names_change w.actors n (moved e) (moved_stays e) ∙ sits.names;
    timers = part_fits d (timers_after e w.timers n).deadlines w.timers.deadlines (after_part e w.timers n) sits.timers;
    ring = sits.ring;
  }

  finishes : (w : Core) (o : Outcome) → t.number ≡ me.process.0 → LinkSits d (Rests d) w → EndsWell t o.end o.progress → AreRightEffects d t o.progress.effects
      → LinkSits d (Rests d) (finished n me o w)
  unfolding finished
  finishes w o number sits well right =
      let now = o.progress.variables in
      ends (laid_all n me (started n o w) o.progress.effects) o.end now
      (all_laid_sits d (Acts d n now) n me t number called there o.progress.effects (started n o w) (starts w o sits well.variables) right)
      well.ready

-- ---- a turn that is out

-- the outcome of a run on a fitting input leaves all fitting
run_fits : RunLaw → EffectsLaw → (d : Draft) (w : Core) (n : ℕ) (me : ActorName) (s : Place) (g : Given) → IsValid d → CoreFits d w → IsCalled d n me
    → Fits d me.process.0 s g.number g.input → CoreFits d (finish_by n me w (Some (runs d me.process.0 s g.number g.input))).to
unfolding runs
run_fits runs_well gives_right d w n me s g valid fits called input =
    let p = me.process.0 in
    let t = input.transition in
    let of = transition_of d p s g.number t input.there in
    let keeps = valid.each p s g.number t input.there in
    let r = runs_well d t g.input keeps input.fits in
    let o : Outcome = record { end = r.end; progress = r.progress } in
    let is : run_of (transition_at d p s g.number) g.input ≡ Ok o = ap (λ u. run_of u g.input) input.there ∙ ap result_in r.ran in
    let after = core_of d (finished n me o w) (finishes d n me t called of.1 w o of.0 (link_of d w fits) r.well (gives_right d t g.input r.end r.progress keeps input.fits r.ran)) in
    subst (λ (u : Result Outcome Trouble). CoreFits d (finish_by n me w (Some u)).to) (sym is) after

pub called_so : (d : Draft) (w : Core) (n : ℕ) (a : Actor) → names_in w.actors ≡ actors_of d.processes → slice_get w.actors n ≡ Some a → IsCalled d n a.name
called_so d w n a names e = ap (λ (xs : List ActorName). slice_get xs n) (sym names) ∙ name_there w.actors n a e

pub finish_fits : RunLaw → EffectsLaw → (d : Draft) (w : Core) (n : ℕ) → IsValid d → CoreFits d w
    → CoreFits d (finish_at (runs d) n w (slice_get w.actors n)).to
finish_fits runs_well gives_right d w n valid fits = by (slice_get w.actors n) refl
  where
    given : (me : ActorName) (s : Standing) (g : Option Given) → IsCalled d n me → GivenFits d me.process.0 s g
        → CoreFits d (finish_by n me w (result_given (runs d) me.process.0 s g)).to
    given me (At s) (Some g) called h = run_fits runs_well gives_right d w n me s g valid fits called h
    given me (At s) None called h = fits
    given me Stopped g called h = fits

    by : (o : Option Actor) → slice_get w.actors n ≡ o → CoreFits d (finish_at (runs d) n w o).to
    by None e = fits
    by (Some a) e = given a.name a.standing a.given (called_so d w n a fits.names e) (fits.each n a e).given
