-- Actors keep their properties when a signal is sent to them and when a timer expires.
use Rattle.std.proofs.Common.{◌≡◌, ℕ, ◌<◌, Bool, true, false, not, if◌then◌else◌, List, [], ◌∷◌, ◌++◌, length, Option, Some, None, refl, ◌∙◌}
use Rattle.std.specs.Prelude.{slice_get}
use Rattle.std.specs.List.{AllByRecursion}
use Rattle.turn_code.specs.Fits.{HaveSorts}
use Rattle.turn_code.specs.declared.value.Value.{Value}
use Rattle.turn_code.specs.declared.draft.Draft.{Draft}
use Rattle.turn_code.specs.declared.draft.DraftProcess.{DraftProcess}
use Rattle.input_port.specs.Queue.{is_of_timer, without_timer}
use Rattle.input_port.specs.declared.queue.Arrival.{Arrival}
use Rattle.input_port.specs.declared.queue.Item.{Item}
use Rattle.input_port.specs.declared.queue.Item.TheVariants.{Signal, Timer}
use Rattle.actor_machine.specs.Names.{actors_of}
use Rattle.actor_machine.specs.Core.{Core, change, change_found, names_in}
use Rattle.actor_machine.specs.Effects.{is_full, reached, receives, drops, hears}
use Rattle.actor_machine.specs.Fits.{Arrived, ItemFits, StandingFits, GivenFits, GivenBy, ActorFits, TimersFit, EmittedFits, CoreFits}
use Rattle.actor_machine.specs.declared.actor.Actor.{Actor}
use Rattle.actor_machine.specs.declared.actor.Given.{Given}
use Rattle.actor_machine.specs.declared.actor.Standing.{Standing}
use Rattle.actor_machine.specs.declared.actor.Standing.TheVariants.{At, Stopped}
use Rattle.actor_machine.proofs.FitsLists.{EachAt, NamesStay, change_each, names_change, all_filter}
use Rattle.plain_laws.proofs.Lists.{each_push as all_push}

-- a property of an actor: of its number, its process by number and by text, its standing, its variables and its turn
abbrev pub Asked : Type 1
Asked = ℕ → ℕ → DraftProcess → Standing → List (Option Value) → Option Given → Type 0

-- actor n has property R, and its variables and items fit
pub record Sits (d : Draft) (R : Asked) (n : ℕ) (a : Actor) : Type 0 where
  pub process : DraftProcess
  pub there : slice_get d.processes a.name.process.0 ≡ Some process
  pub variables : HaveSorts process.variables a.variables.items
  pub rest : R n a.name.process.0 process a.standing a.variables.items a.given
  pub items : AllByRecursion (ItemFits d a.name.process.0 process) a.port.items

-- each actor of the link has property R, and all else fits
pub record LinkSits (d : Draft) (R : Asked) (w : Core) : Type 0 where
  pub each : EachAt (Sits d R) w.actors
  pub names : names_in w.actors ≡ actors_of d.processes
  pub timers : TimersFit d w.timers.deadlines
  pub ring : AllByRecursion (EmittedFits d) w.ring.items

-- ---- between turns

abbrev pub Rests : Draft → Asked
Rests d n k p s vs g = StandingFits p s vs × GivenFits d k s g × GivenBy d g

pub sits_of : (d : Draft) (n : ℕ) (a : Actor) → ActorFits d a → Sits d (Rests d) n a
sits_of d n a h = record { process = h.process; there = h.there; variables = h.variables; rest = (h.standing, h.given, h.sender); items = h.items }

pub fits_of : (d : Draft) (n : ℕ) (a : Actor) → Sits d (Rests d) n a → ActorFits d a
fits_of d n a h = record { process = h.process; there = h.there; variables = h.variables; standing = h.rest.0; items = h.items; given = h.rest.1; sender = h.rest.2 }

pub link_of : (d : Draft) (w : Core) → CoreFits d w → LinkSits d (Rests d) w
link_of d w h = record { each = λ n a e. sits_of d n a (h.each n a e); names = h.names; timers = h.timers; ring = h.ring }

pub core_of : (d : Draft) (w : Core) → LinkSits d (Rests d) w → CoreFits d w
core_of d w h = record { each = λ n a e. fits_of d n a (h.each n a e); names = h.names; timers = h.timers; ring = h.ring }

-- ---- one actor

module _ (d : Draft) (R : Asked) (n : ℕ) (a : Actor) (sits : Sits d R n a) where
  -- the items are replaced by others that fit
  pub with_items : (xs : List Item) → AllByRecursion (ItemFits d a.name.process.0 sits.process) xs → Sits d R n (record a { port = record a.port { items = xs } })
  with_items xs all = record { process = sits.process; there = sits.there; variables = sits.variables; rest = sits.rest; items = all }

  received : (arrival : Arrival) (b : Bool) → Arrived d a.name.process.0 arrival
      → Sits d R n (record a { port = if b then a.port else record a.port { items = a.port.items ++ Signal arrival ∷ [] } })
  received arrival true arrived = sits
  received arrival false arrived = with_items (a.port.items ++ Signal arrival ∷ []) (all_push (ItemFits d a.name.process.0 sits.process) a.port.items (Signal arrival) sits.items arrived)

  pub sits_receives : (arrival : Arrival) → Arrived d a.name.process.0 arrival → Sits d R n (receives arrival a)
  sits_receives arrival arrived = by a.standing
    where
      by : (s : Standing) → Sits d R n (reached a arrival s)
      by (At s) = received arrival (is_full a.port) arrived
      by Stopped = sits

  pub sits_drops : (timer : ℕ) → Sits d R n (drops timer a)
  sits_drops timer = with_items (without_timer a.port.items timer) (all_filter (ItemFits d a.name.process.0 sits.process) (λ x. not (is_of_timer timer x)) a.port.items sits.items)

  pub sits_hears : (timer : ℕ) → timer < length sits.process.timers → Sits d R n (hears timer a)
  sits_hears timer within =
      with_items (without_timer a.port.items timer ++ Timer (record { 0 = timer }) ∷ [])
      (all_push (ItemFits d a.name.process.0 sits.process) (without_timer a.port.items timer) (Timer (record { 0 = timer }))
      (all_filter (ItemFits d a.name.process.0 sits.process) (λ x. not (is_of_timer timer x)) a.port.items sits.items) within)

-- ---- all actors

-- one actor changes and keeps the property
pub change_sits : (d : Draft) (R : Asked) (xs : List Actor) (n : ℕ) (f : Actor → Actor) → EachAt (Sits d R) xs
    → ((a : Actor) → slice_get xs n ≡ Some a → Sits d R n a → Sits d R n (f a)) → EachAt (Sits d R) (change xs n f)
change_sits d R xs n f each one = change_each (Sits d R) (Sits d R) xs n f each (λ k a other h. h) one

pub with_actors : (d : Draft) (R : Asked) (w : Core) (n : ℕ) (f : Actor → Actor) → NamesStay f → LinkSits d R w
    → ((a : Actor) → slice_get w.actors n ≡ Some a → Sits d R n a → Sits d R n (f a)) → LinkSits d R (record w { actors = change w.actors n f })
with_actors d R w n f keeps sits one = record {
  each = change_sits d R w.actors n f sits.each one;
  names = names_change w.actors n f keeps ∙ sits.names;
  timers = sits.timers;
  ring = sits.ring;
}

-- as `with_actors`, for an actor that may not be found
pub with_found : (d : Draft) (R : Asked) (w : Core) (o : Option ℕ) (f : Actor → Actor) → NamesStay f → LinkSits d R w
    → ((n : ℕ) (a : Actor) → o ≡ Some n → slice_get w.actors n ≡ Some a → Sits d R n a → Sits d R n (f a))
    → LinkSits d R (record w { actors = change_found w.actors o f })
with_found d R w None f keeps sits one = record { each = sits.each; names = sits.names; timers = sits.timers; ring = sits.ring }
with_found d R w (Some n) f keeps sits one = with_actors d R w n f keeps sits (λ a there h. one n a refl there h)

-- ---- changes that keep an actor's name

pub receives_stay : (arrival : Arrival) → NamesStay (receives arrival)
unfolding NamesStay
receives_stay arrival a = by a.standing
  where
    by : (s : Standing) → (reached a arrival s).name ≡ a.name
    by (At s) = refl
    by Stopped = refl

pub drops_stay : (timer : ℕ) → NamesStay (drops timer)
unfolding NamesStay
drops_stay timer a = refl

pub hears_stay : (timer : ℕ) → NamesStay (hears timer)
unfolding NamesStay
hears_stay timer a = refl
