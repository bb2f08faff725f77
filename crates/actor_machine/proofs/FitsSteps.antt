-- All fits in an opened link, and after each step from a state where all fits.
use Rattle.std.proofs.Common.{◌≡◌, ℕ, ◌+◌, ◌<◌, Bool, true, false, not, List, [], ◌∷◌, length, Some, None, refl, sym, ap, ◌∙◌, subst, arith}
use Rattle.std.specs.Prelude.{slice_get}
use Rattle.std.specs.List.{AllByRecursion}
use Rattle.std.proofs.lemmas.Option.{same_Some}
use Rattle.std.proofs.lemmas.Bool.{not-false as negated}
use Rattle.turn_code.specs.Transitions.{process_at, start_of}
use Rattle.turn_code.specs.Valid.{IsValid}
use Rattle.turn_code.specs.Fits.{HaveSorts}
use Rattle.turn_code.specs.Safe.{RunLaw}
use Rattle.turn_code.specs.Effects.{EffectsLaw}
use Rattle.turn_code.specs.Start.{initial_values, StartLaw}
use Rattle.turn_code.specs.declared.input.Input.{Input}
use Rattle.turn_code.specs.declared.input.Place.TheVariants.{Start}
use Rattle.turn_code.specs.declared.draft.Draft.{Draft}
use Rattle.turn_code.specs.declared.draft.DraftProcess.{DraftProcess}
use Rattle.tick_wheel.specs.Timers.{due, not_due, DueLaw}
use Rattle.tick_wheel.specs.declared.Due.{Due}
use Rattle.actor_machine.specs.Names.{actors_of}
use Rattle.actor_machine.specs.declared.name.ActorName.{ActorName}
use Rattle.actor_machine.specs.Core.{Core, change, is_out, names_in}
use Rattle.actor_machine.specs.Looking.{looks, begun, skipped}
use Rattle.actor_machine.specs.Effects.{receives, hears, is_full}
use Rattle.actor_machine.specs.Refusals.{first_of, has_stopped, is_offered, offer_rows, is_nothing, is_ignored, is_counted_out, begin_rows, of_actor, refuses}
use Rattle.actor_machine.specs.Fits.{TimerFits, ActorFits, EmittedFits, CoreFits}
use Rattle.actor_machine.specs.Kept.{opened_actor, opened_from, opened}
use Rattle.actor_machine.specs.Ledger.{runs}
use Rattle.actor_machine.specs.Step.{offered_arrival, notified, due_in, passed, tail_of, step}
use Rattle.actor_machine.specs.declared.actor.Actor.{Actor}
use Rattle.actor_machine.specs.declared.event.Event.{Event}
use Rattle.actor_machine.specs.declared.event.Event.TheVariants.{Offer, Begin, Skip, Finish, Advance, TakeEnv}
use Rattle.actor_machine.specs.declared.event.Offer.{Offer as Offered}
use Rattle.actor_machine.specs.declared.reply.Emitted.{Emitted}
use Rattle.actor_machine.specs.declared.reply.Refusal.{Refusal}
use Rattle.actor_machine.specs.declared.reply.Refusal.TheVariants as refusal
use Rattle.actor_machine.proofs.FitsLists.{EachAt, names_change, name_is, all_from_each}
use Rattle.actor_machine.proofs.FitsActors.{Asked, Sits, LinkSits, Rests, link_of, core_of, sits_receives, sits_hears, change_sits, with_actors, receives_stay, hears_stay}
use Rattle.actor_machine.proofs.FitsTimers.{no_timers, part_fits, retained}
use Rattle.actor_machine.proofs.FitsFinish.{finish_fits}
use Rattle.actor_machine.proofs.FitsBegin.{sits_begun, sits_skipped, begun_stays, skipped_stays}
use Rattle.actor_machine.proofs.FitsOffer.{offered_arrives}
use Rattle.actor_machine.proofs.Opened.{opened_all, opened_names, each_of}

-- ---- rows that don't refuse

-- if nothing is refused, neither the first row nor any other holds
passes : (b : Bool) (r : Refusal) (rows : List (Bool × Refusal)) → first_of ((b, r) ∷ rows) ≡ None → (b ≡ false) × (first_of rows ≡ None)
passes true r rows e = cc
passes false r rows e = (refl, e)

accepted_offer : (d : Draft) (o : Offered) (a : Actor) → first_of (offer_rows d o a) ≡ None → is_offered d a.name.process.0 o.signal o.values.items ≡ true
unfolding offer_rows
accepted_offer d o a e =
    let offered = is_offered d a.name.process.0 o.signal o.values.items in
    let behind = passes (has_stopped a.standing) refusal.Stopped ((not offered, refusal.NoRoute) ∷ (is_full a.port, refusal.Full) ∷ []) e in
    negated offered (passes (not offered) refusal.NoRoute ((is_full a.port, refusal.Full) ∷ []) behind.1).0

accepted_begin : (d : Draft) (turns : ℕ) (a : Actor) → first_of (begin_rows d turns a) ≡ None → (is_nothing (looks d a) ≡ false) × (is_ignored (looks d a) ≡ false)
unfolding begin_rows
accepted_begin d turns a e =
    let last = (is_counted_out turns, refusal.CountFull) ∷ [] in
    let third = (is_ignored (looks d a), refusal.SkipFirst) ∷ last in
    let behind = passes (is_out a) refusal.Busy ((is_nothing (looks d a), refusal.Nothing) ∷ third) e in
    let found = passes (is_nothing (looks d a)) refusal.Nothing third behind.1 in
    (found.0, (passes (is_ignored (looks d a)) refusal.SkipFirst last found.1).0)

-- ---- the clock

-- a due timer belongs to its actor's process
due_own : (d : Draft) (R : Asked) (x : Due) (actors : List Actor) (a : Actor) → TimerFits d x.timer → names_in actors ≡ actors_of d.processes → slice_get actors x.timer.actor ≡ Some a
    → (h : Sits d R x.timer.actor a) → x.timer.number < length h.process.timers
due_own d R x actors a due names e h =
    let own : a.name ≡ due.name = name_is actors x.timer.actor a due.name e (ap (λ (xs : List ActorName). slice_get xs x.timer.actor) names ∙ due.actor) in
    let of : slice_get d.processes a.name.process.0 ≡ Some due.process = ap (λ (y : ActorName). slice_get d.processes y.process.0) own ∙ due.there in
    subst (λ (p : DraftProcess). x.timer.number < length p.timers) (same_Some due.process h.process (sym of ∙ h.there)) due.number

-- due timers that belong to their actors' processes keep all fitting
notified_sits : (d : Draft) (R : Asked) (xs : List Due) (actors : List Actor) → AllByRecursion (λ (x : Due). TimerFits d x.timer) xs → names_in actors ≡ actors_of d.processes
    → EachAt (Sits d R) actors → EachAt (Sits d R) (notified actors xs)
notified_sits d R [] actors due names each = each
notified_sits d R (x ∷ xs) actors due names each =
    let n = x.timer.actor in
    let f = hears x.timer.number in
    notified_sits d R xs (change actors n f) due.1 (names_change actors n f (hears_stay x.timer.number) ∙ names)
    (change_sits d R actors n f each (λ a e h. sits_hears d R n a h x.timer.number (due_own d R x actors a due.0 names e h)))

notified_names : (xs : List Due) (actors : List Actor) → names_in (notified actors xs) ≡ names_in actors
notified_names [] actors = refl
notified_names (x ∷ xs) actors =
    notified_names xs (change actors x.timer.actor (hears x.timer.number)) ∙ names_change actors x.timer.actor (hears x.timer.number) (hears_stay x.timer.number)

passed_sits : DueLaw → (d : Draft) (R : Asked) (w : Core) (k : ℕ) → LinkSits d R w → LinkSits d R (passed k w)
unfolding passed
passed_sits is_due d R w k sits =
    let clock = w.timers.clock + k in
    let fit : AllByRecursion (λ (x : Due). TimerFits d x.timer) (due_in w k) = all_from_each (λ (x : Due). TimerFits d x.timer) (due_in w k)
    (λ x has. sits.timers x.timer x.deadline (((is_due w.timers.deadlines clock).exactly x).0 has).0) in
    record {
      each = notified_sits d R (due_in w k) w.actors fit sits.names sits.each;
      names = notified_names (due_in w k) w.actors ∙ sits.names;
      timers = part_fits d (not_due w.timers.deadlines clock) w.timers.deadlines (retained w.timers.deadlines clock) sits.timers;
      ring = sits.ring;
    }

tail_fits : (d : Draft) (xs : List Emitted) → AllByRecursion (EmittedFits d) xs → AllByRecursion (EmittedFits d) (tail_of xs)
tail_fits d [] all = tt
tail_fits d (x ∷ xs) all = all.1

-- ---- all events

pub step_fits : RunLaw → EffectsLaw → StartLaw → DueLaw → (d : Draft) (w : Core) (e : Event) → IsValid d → CoreFits d w → refuses d w e ≡ None
    → CoreFits d (step d (runs d) w e).to
unfolding step refuses
step_fits runs_well gives_right start_fits is_due d w (Offer o) valid fits accepted =
    core_of d _ (with_actors d (Rests d) w o.actor (receives (offered_arrival o)) (receives_stay (offered_arrival o)) (link_of d w fits) (λ a e h.
    sits_receives d (Rests d) o.actor a h (offered_arrival o)
    (offered_arrives d a.name.process.0 o (accepted_offer d o a (ap (of_actor (λ a. first_of (offer_rows d o a))) (sym e) ∙ accepted)))))
step_fits runs_well gives_right start_fits is_due d w (Begin n) valid fits accepted =
    let then = with_actors d (Rests d) w n (begun d w.turns) (begun_stays d w.turns) (link_of d w fits) (λ a e h.
    let found = accepted_begin d w.turns a (ap (of_actor (λ a. first_of (begin_rows d w.turns a))) (sym e) ∙ accepted) in
    sits_begun start_fits d valid n w.turns a h found.0 found.1) in
    core_of d _ (record { each = then.each; names = then.names; timers = then.timers; ring = then.ring })
step_fits runs_well gives_right start_fits is_due d w (Skip n) valid fits accepted =
    core_of d _ (with_actors d (Rests d) w n (skipped d) (skipped_stays d) (link_of d w fits) (λ a e h. sits_skipped d n a h))
step_fits runs_well gives_right start_fits is_due d w (Finish n) valid fits accepted = finish_fits runs_well gives_right d w n valid fits
step_fits runs_well gives_right start_fits is_due d w (Advance k) valid fits accepted = core_of d _ (passed_sits is_due d (Rests d) w k (link_of d w fits))
step_fits runs_well gives_right start_fits is_due d w TakeEnv valid fits accepted =
    record { each = fits.each; names = fits.names; timers = fits.timers; ring = tail_fits d w.ring.items fits.ring }

-- ---- the opened link

initial_sorts : StartLaw → (d : Draft) → IsValid d → (n : ℕ) (p : DraftProcess) → slice_get d.processes n ≡ Some p → HaveSorts p.variables (initial_values p.variables)
initial_sorts start_fits d valid n p there =
    let first : Input = record { variables = record { items = initial_values p.variables }; parameters = record { items = [] }; sender = None } in
    (start_fits d n 0 (start_of n p) first valid (ap (process_at d.signals n Start 0) there) (record { variables = refl; parameters = refl })).variables

opened_actor_fits : StartLaw → (d : Draft) (port : ℕ) → IsValid d → (p : DraftProcess) (x : ActorName) → slice_get d.processes x.process.0 ≡ Some p
    → ActorFits d (opened_actor port p x)
opened_actor_fits start_fits d port valid p x there =
    record { process = p; there = there; variables = initial_sorts start_fits d valid x.process.0 p there; standing = refl; items = tt; given = tt; sender = tt }

pub opened_fits : StartLaw → (d : Draft) (port env : ℕ) → IsValid d → CoreFits d (opened d port env)
unfolding opened
opened_fits start_fits d port env valid = record {
  each = each_of (ActorFits d) (opened_from port 0 d.processes) (opened_all (ActorFits d) port 0 d.processes
      (λ k p x there number. opened_actor_fits start_fits d port valid p x (ap (slice_get d.processes) (let e : x.process.0 ≡ k = omega (arith, number) in e) ∙ there)));
  names = opened_names port 0 d.processes;
  timers = no_timers d;
  ring = tt;
}
