-- A timer that has a deadline has no signal in the port.
use Rattle.std.proofs.Common.{◌≡◌, ℕ, ◌+◌, ◌≤◌, inl, inr, Bool, true, false, not, ◌||◌, cond, if◌then◌else◌, List, [], ◌∷◌, ◌++◌, Option, Some, None, refl, sym, ap, ◌∙◌, subst, arith}
use Rattle.std.specs.Prelude.{slice_get, nat_le, Result, Ok, Err}
use Rattle.std.specs.List.{AllByRecursion}
use Rattle.std.specs.Option.{option_map_or}
use Rattle.std.specs.FinMap as finite
use Rattle.std.specs.FinMap.{get-empty}
use Rattle.std.proofs.lemmas.Bool.{false≢true}
use Rattle.std.proofs.lemmas.Bool.Decides.{eqb_tells, nat_tests}
use Rattle.std.proofs.lemmas.Option.{none-some}
use Rattle.turn_code.specs.Outcome.{Outcome}
use Rattle.turn_code.specs.declared.draft.Draft.{Draft}
use Rattle.turn_code.specs.declared.effect.Effect.{Effect}
use Rattle.turn_code.specs.declared.effect.Effect.TheVariants.{Output, Set, Reset}
use Rattle.turn_code.specs.declared.effect.Sending.{Sending}
use Rattle.turn_code.specs.declared.input.Party.{Party}
use Rattle.turn_code.specs.declared.input.Party.TheVariants.{Environment, Process}
use Rattle.turn_code.specs.declared.machine.End.{End}
use Rattle.turn_code.specs.declared.machine.End.TheVariants.{State, Stop}
use Rattle.turn_code.specs.declared.numbers.InstanceNumber.{InstanceNumber}
use Rattle.turn_code.specs.declared.trouble.Trouble.{Trouble}
use Rattle.input_port.specs.Queue.{is_of_timer, has_timer, without_timer}
use Rattle.input_port.specs.declared.queue.Arrival.{Arrival}
use Rattle.input_port.specs.declared.queue.Item.{Item}
use Rattle.input_port.specs.declared.queue.Item.TheVariants.{Signal, Timer}
use Rattle.tick_wheel.specs.TimerId.{TimerId, timer_cmp}
use Rattle.tick_wheel.specs.Timers.{Deadlines, not_due, DueLaw}
use Rattle.tick_wheel.specs.declared.Due.{Due}
use Rattle.actor_machine.specs.Names.{number_for}
use Rattle.actor_machine.specs.declared.name.ActorName.{ActorName}
use Rattle.actor_machine.specs.Core.{Core, change, change_found, names_in}
use Rattle.actor_machine.specs.Looking.{begun, skipped}
use Rattle.actor_machine.specs.Effects.{is_full, reached, receives, drops, hears, timer_of, delay, arrival_of, delivered, laid, laid_all, settled, moved, timers_after, started, finished}
use Rattle.actor_machine.specs.Step.{step, finish_by, finish_at, result_given, offered_arrival, notified, due_in, passed}
use Rattle.actor_machine.specs.Ledger.{runs}
use Rattle.actor_machine.specs.Kept.{AreSilent, opened}
use Rattle.actor_machine.specs.Laws.{TimerLaw}
use Rattle.actor_machine.specs.declared.actor.Actor.{Actor}
use Rattle.actor_machine.specs.declared.actor.Standing.{Standing}
use Rattle.actor_machine.specs.declared.actor.Standing.TheVariants.{At, Stopped}
use Rattle.actor_machine.specs.declared.event.Event.{Event}
use Rattle.actor_machine.specs.declared.event.Event.TheVariants.{Offer, Begin, Skip, Finish, Advance, TakeEnv}
use Rattle.actor_machine.proofs.FitsLists.{EachAt, change_each, all_filter, all_from_each}
use Rattle.actor_machine.proofs.FitsTimers.{ArePart, get_inserted, get_retained, removed, retained, after_part}
use Rattle.actor_machine.proofs.FitsBegin.{all_left}
use Rattle.plain_laws.proofs.Lists.{each_push as all_push}

-- ---- items

-- none of the items is of this timer
abbrev Lacks : ℕ → List Item → Type 0
Lacks timer xs = AllByRecursion (λ (x : Item). is_of_timer timer x ≡ false) xs

neither : (a b : Bool) → (a || b) ≡ false → (a ≡ false) × (b ≡ false)
neither true b h = absurd (false≢true (sym h))
neither false b h = (refl, h)

lacks_of : (timer : ℕ) (xs : List Item) → has_timer xs timer ≡ false → Lacks timer xs
lacks_of timer [] h = tt
lacks_of timer (x ∷ xs) h =
    let both = neither (is_of_timer timer x) (has_timer xs timer) h in
    (both.0, lacks_of timer xs both.1)

none_of : (timer : ℕ) (xs : List Item) → Lacks timer xs → has_timer xs timer ≡ false
none_of timer [] h = refl
none_of timer (x ∷ xs) h = ap (λ (b : Bool). b || has_timer xs timer) h.0 ∙ none_of timer xs h.1

gone : (timer : ℕ) (xs : List Item) → Lacks timer (without_timer xs timer)
gone timer [] = tt
gone timer (x ∷ xs) =
    let rest = gone timer xs in
    elim (is_of_timer timer x) as (λ b. is_of_timer timer x ≡ b → Lacks timer (cond (not b) (x ∷ without_timer xs timer) (without_timer xs timer))) [
      | true ↦ λ e. rest
      | false ↦ λ e. (e, rest)
    ] refl

-- ---- a change of one actor

received : (arrival : Arrival) (timer : ℕ) (a : Actor) → Lacks timer a.port.items → Lacks timer (receives arrival a).port.items
received arrival timer a h = by a.standing
  where
    behind : (b : Bool) → Lacks timer (if b then a.port else record a.port { items = a.port.items ++ Signal arrival ∷ [] }).items
    behind true = h
    behind false = all_push (λ (x : Item). is_of_timer timer x ≡ false) a.port.items (Signal arrival) h refl

    by : (s : Standing) → Lacks timer (reached a arrival s).port.items
    by (At s) = behind (is_full a.port)
    by Stopped = h

dropped : (number timer : ℕ) (a : Actor) → Lacks timer a.port.items → Lacks timer (drops number a).port.items
dropped number timer a h = all_filter (λ (x : Item). is_of_timer timer x ≡ false) (λ x. not (is_of_timer number x)) a.port.items h

moved_on : (e : End) (timer : ℕ) (a : Actor) → Lacks timer a.port.items → Lacks timer (moved e a).port.items
moved_on (State q) timer a h = h
moved_on Stop timer a h = tt

has_begun : (d : Draft) (turn timer : ℕ) (a : Actor) → Lacks timer a.port.items → Lacks timer (begun d turn a).port.items
unfolding begun
has_begun d turn timer a h = all_left (λ (x : Item). is_of_timer timer x ≡ false) d a.name.process.0 a.standing a.port.items h

has_skipped : (d : Draft) (timer : ℕ) (a : Actor) → Lacks timer a.port.items → Lacks timer (skipped d a).port.items
unfolding skipped
has_skipped d timer a h = all_left (λ (x : Item). is_of_timer timer x ≡ false) d a.name.process.0 a.standing a.port.items h

-- ---- all actors

-- no timer of actor n that has a deadline has an item
abbrev Quiet : Deadlines → ℕ → Actor → Type 0
Quiet m n a = (timer until : ℕ) → finite.get m (timer_of n timer) ≡ Some until → Lacks timer a.port.items

abbrev IsQuiet : Core → Type 0
IsQuiet w = EachAt (Quiet w.timers.deadlines) w.actors

-- one actor changes and gets no timer item
quiet_change : (m : Deadlines) (xs : List Actor) (n : ℕ) (f : Actor → Actor) → ((timer : ℕ) (a : Actor) → Lacks timer a.port.items → Lacks timer (f a).port.items)
    → EachAt (Quiet m) xs → EachAt (Quiet m) (change xs n f)
quiet_change m xs n f spares each =
    change_each (Quiet m) (Quiet m) xs n f each (λ k a other h. h) (λ a there h timer until active. spares timer a (h timer until active))

quiet_found : (m : Deadlines) (xs : List Actor) (o : Option ℕ) (f : Actor → Actor) → ((timer : ℕ) (a : Actor) → Lacks timer a.port.items → Lacks timer (f a).port.items)
    → EachAt (Quiet m) xs → EachAt (Quiet m) (change_found xs o f)
quiet_found m xs None f spares each = each
quiet_found m xs (Some n) f spares each = quiet_change m xs n f spares each

-- some deadlines are removed
quiet_part : (some all : Deadlines) (xs : List Actor) → ArePart some all → EachAt (Quiet all) xs → EachAt (Quiet some) xs
quiet_part some all xs part each = λ n a there timer until active. each n a there timer until (part (timer_of n timer) until active)

-- a timer is set
quiet_set : (m : Deadlines) (xs : List Actor) (n number deadline : ℕ) → EachAt (Quiet m) xs
    → EachAt (Quiet (finite.insert m (timer_of n number) deadline)) (change xs n (drops number))
quiet_set m xs n number deadline each =
    change_each (Quiet m) (Quiet (finite.insert m (timer_of n number) deadline)) xs n (drops number) each
    (λ k a other h timer until active. elim (get_inserted m (timer_of n number) deadline (timer_of k timer) until active) [
      | inl same ↦ absurd (other (ap (λ (t : TimerId). t.actor) same))
      | inr was ↦ h timer until was
    ])
    (λ a there h timer until active. elim (get_inserted m (timer_of n number) deadline (timer_of n timer) until active) [
      | inl same ↦ subst (λ (k : ℕ). Lacks k (without_timer a.port.items number)) (ap (λ (t : TimerId). t.number) (sym same)) (gone number a.port.items)
      | inr was ↦ dropped number timer a (h timer until was)
    ])

-- ---- a turn that ends

quiet_delivered : (me : ActorName) (w : Core) (s : Sending) (p : Party) (k : Option InstanceNumber) → IsQuiet w → IsQuiet (delivered me w s p k)
quiet_delivered me w s Environment k h = h
quiet_delivered me w s (Process p) k h =
    quiet_found w.timers.deadlines w.actors (number_for (names_in w.actors) me p k) (receives (arrival_of me s)) (received (arrival_of me s)) h

quiet_laid : (n : ℕ) (me : ActorName) (w : Core) (e : Effect) → IsQuiet w → IsQuiet (laid n me w e)
quiet_laid n me w (Output s) h = quiet_delivered me w s s.receiver.party s.receiver.instance h
quiet_laid n me w (Set t z) h = quiet_set w.timers.deadlines w.actors n t.0 (w.timers.clock + delay z) h
quiet_laid n me w (Reset t) h =
    quiet_part (finite.remove w.timers.deadlines (timer_of n t.0)) w.timers.deadlines (change w.actors n (drops t.0)) (removed w.timers.deadlines (timer_of n t.0))
    (quiet_change w.timers.deadlines w.actors n (drops t.0) (dropped t.0) h)

quiet_laid_all : (n : ℕ) (me : ActorName) (es : List Effect) (w : Core) → IsQuiet w → IsQuiet (laid_all n me w es)
quiet_laid_all n me [] w h = h
quiet_laid_all n me (e ∷ es) w h = quiet_laid_all n me es (laid n me w e) (quiet_laid n me w e h)

quiet_finished : (n : ℕ) (me : ActorName) (o : Outcome) (w : Core) → IsQuiet w → IsQuiet (finished n me o w)
unfolding finished
quiet_finished n me o w h =
    let v : Core = laid_all n me (started n o w) o.progress.effects in
    let acted : IsQuiet v = quiet_laid_all n me o.progress.effects (started n o w) (quiet_change w.timers.deadlines w.actors n (settled o) (λ timer a h. h) h) in
    quiet_part (timers_after o.end v.timers n).deadlines v.timers.deadlines (change v.actors n (moved o.end)) (after_part o.end v.timers n)
    (quiet_change v.timers.deadlines v.actors n (moved o.end) (moved_on o.end) acted)

quiet_finish : (n : ℕ) (me : ActorName) (w : Core) (r : Option (Result Outcome Trouble)) → IsQuiet w → IsQuiet (finish_by n me w r).to
quiet_finish n me w None h = h
quiet_finish n me w (Some (Err x)) h = h
quiet_finish n me w (Some (Ok o)) h = quiet_finished n me o w h

quiet_finish_at : (d : Draft) (n : ℕ) (w : Core) (o : Option Actor) → IsQuiet w → IsQuiet (finish_at (runs d) n w o).to
quiet_finish_at d n w None h = h
quiet_finish_at d n w (Some a) h = quiet_finish n a.name w (result_given (runs d) a.name.process.0 a.standing a.given) h

-- ---- the clock

-- the timer has no deadline
abbrev IsOff : Deadlines → Due → Type 0
IsOff m x = (until : ℕ) → finite.get m x.timer ≡ Some until → ⊥

heard : (m : Deadlines) (x : Due) (a : Actor) (timer until : ℕ) → IsOff m x → finite.get m (timer_of x.timer.actor timer) ≡ Some until → Lacks timer a.port.items
    → Lacks timer (hears x.timer.number a).port.items
heard m x a timer until off active h =
    all_push (λ (x : Item). is_of_timer timer x ≡ false) (without_timer a.port.items x.timer.number) (Timer (record { 0 = x.timer.number }))
    (dropped x.timer.number timer a h)
    (elim (eqb_tells timer x.timer.number) [
      | inl same ↦ absurd (off until (subst (λ (k : ℕ). finite.get m (timer_of x.timer.actor k) ≡ Some until) same.1 active))
      | inr other ↦ other.0
    ])

quiet_notified : (m : Deadlines) (xs : List Due) (actors : List Actor) → AllByRecursion (IsOff m) xs → EachAt (Quiet m) actors → EachAt (Quiet m) (notified actors xs)
quiet_notified m [] actors off each = each
quiet_notified m (x ∷ xs) actors off each =
    quiet_notified m xs (change actors x.timer.actor (hears x.timer.number)) off.1
    (change_each (Quiet m) (Quiet m) actors x.timer.actor (hears x.timer.number) each (λ k a other h. h)
    (λ a there h timer until active. heard m x a timer until off.0 active (h timer until active)))

at_most : (a b : ℕ) → a ≤ b → nat_le a b ≡ true
at_most a b h = grind (arith, nat_tests)

-- a timer that is due has no deadline afterwards
due_is_off : (m : Deadlines) (clock : ℕ) (x : Due) → (finite.get m x.timer ≡ Some x.deadline) × (x.deadline ≤ clock) → IsOff (not_due m clock) x
due_is_off m clock x h = λ until active.
    false≢true (sym (get_retained m clock x.timer until active).1
    ∙ (ap (λ (o : Option ℕ). option_map_or (λ d. nat_le d clock) o false) h.0 ∙ at_most x.deadline clock h.1))

quiet_passed : DueLaw → (w : Core) (k : ℕ) → IsQuiet w → IsQuiet (passed k w)
unfolding passed
quiet_passed law w k h =
    let m : Deadlines = w.timers.deadlines in
    let clock : ℕ = w.timers.clock + k in
    quiet_notified (not_due m clock) (due_in w k) w.actors
    (all_from_each (IsOff (not_due m clock)) (due_in w k) (λ x has. due_is_off m clock x (((law m clock).exactly x).0 has)))
    (quiet_part (not_due m clock) m w.actors (retained m clock) h)

-- ---- all events

quiet_step : DueLaw → (d : Draft) (w : Core) (e : Event) → IsQuiet w → IsQuiet (step d (runs d) w e).to
unfolding step
quiet_step law d w (Offer o) h = quiet_change w.timers.deadlines w.actors o.actor (receives (offered_arrival o)) (received (offered_arrival o)) h
quiet_step law d w (Begin n) h = quiet_change w.timers.deadlines w.actors n (begun d w.turns) (has_begun d w.turns) h
quiet_step law d w (Skip n) h = quiet_change w.timers.deadlines w.actors n (skipped d) (has_skipped d) h
quiet_step law d w (Finish n) h = quiet_finish_at d n w (slice_get w.actors n) h
quiet_step law d w (Advance k) h = quiet_passed law w k h
quiet_step law d w TakeEnv h = h

pub silent_step : DueLaw → (d : Draft) (w : Core) (e : Event) → AreSilent w → AreSilent (step d (runs d) w e).to
silent_step law d w e h =
    let v : Core = (step d (runs d) w e).to in
    let quiet : IsQuiet v = quiet_step law d w e (λ n a there timer until active. lacks_of timer a.port.items (h.each n a there timer until active)) in
    record { each = λ n a there timer until active. none_of timer a.port.items (quiet n a there timer until active) }

pub silent_opened : (d : Draft) (port env : ℕ) → AreSilent (opened d port env)
unfolding opened
silent_opened d port env =
    record { each = λ n a there timer until active. absurd (none-some until (sym (get-empty timer_cmp (timer_of n timer)) ∙ active)) }

pub timer_law : TimerLaw
timer_law b kept = kept.silent
