-- When an event is refused, and by which name. The rows of each call are in the order in which they
-- are tested; the room of the journal comes last.
use Rattle.std.specs.Prelude.{ℕ, ◌+◌, ◌==◌, Bool, true, false, not, ◌&&◌, List, [], ◌∷◌, length}
use Rattle.std.specs.Prelude.{map, Option, None, Some, slice_get, nat_lt, nat_le, if◌then◌else◌}
use Rattle.std.specs.List.{list_any}
use Rattle.plain_laws.specs.Limits.{LAST_TICK, MOST_TICKS, MOST_TURNS_BEGUN}
use Rattle.turn_code.specs.Values.{sort_of}
use Rattle.turn_code.specs.Transitions.{parameters_of}
use Rattle.turn_code.specs.declared.value.Sort.{Sort}
use Rattle.turn_code.specs.declared.value.Sort.TheVariants.{Integer, Boolean}
use Rattle.turn_code.specs.declared.value.Value.{Value}
use Rattle.turn_code.specs.declared.numbers.SignalNumber.{SignalNumber}
use Rattle.turn_code.specs.declared.input.Party.{Party}
use Rattle.turn_code.specs.declared.input.Party.TheVariants.{Environment, Process}
use Rattle.turn_code.specs.declared.draft.Draft.{Draft}
use Rattle.turn_code.specs.declared.draft.DraftRoute.{DraftRoute}
use Rattle.actor_machine.specs.Core.{Core, Ring, is_out}
use Rattle.actor_machine.specs.Looking.{looks}
use Rattle.actor_machine.specs.Effects.{is_full}
use Rattle.actor_machine.specs.declared.actor.Actor.{Actor}
use Rattle.actor_machine.specs.declared.actor.Standing.{Standing}
use Rattle.actor_machine.specs.declared.actor.Standing.TheVariants.{At, Stopped as HasStopped}
use Rattle.actor_machine.specs.declared.event.Event.{Event}
use Rattle.actor_machine.specs.declared.event.Event.TheVariants.{Offer, Begin, Skip, Finish}
use Rattle.actor_machine.specs.declared.event.Event.TheVariants.{Advance, TakeEnv}
use Rattle.actor_machine.specs.declared.event.Offer.{Offer as Offered}
use Rattle.actor_machine.specs.declared.found.Found.{Found}
use Rattle.actor_machine.specs.declared.found.Found.TheVariants as found
use Rattle.actor_machine.specs.declared.reply.Refusal.{Refusal}
use Rattle.actor_machine.specs.declared.reply.Refusal.TheVariants.{Full, Stopped, NoRoute, Busy}
use Rattle.actor_machine.specs.declared.reply.Refusal.TheVariants.{Nothing, Stranger, Empty}
use Rattle.actor_machine.specs.declared.reply.Refusal.TheVariants.{JournalFull, CountFull, NoActor}
use Rattle.actor_machine.specs.declared.reply.Refusal.TheVariants.{SkipFirst, NotIgnored, TooFar}
use Rattle.actor_machine.specs.declared.reply.Refusal.TheVariants.{ClockFull}

-- the name of the first row that holds
abbrev pub first_of : List (Bool × Refusal) → Option Refusal
first_of [] = None
first_of (row ∷ rows) = if row.0 then Some row.1 else first_of rows

-- ---- offers

abbrev pub has_stopped : Standing → Bool
has_stopped (At s) = false
has_stopped HasStopped = true

abbrev pub is_environment : Party → Bool
is_environment Environment = true
is_environment (Process m) = false

abbrev pub is_process : ℕ → Party → Bool
is_process n Environment = false
is_process n (Process m) = m.0 == n

-- the route brings the signal from the environment to process n
abbrev pub offers : ℕ → SignalNumber → DraftRoute → Bool
offers n s r =
    is_environment r.from
    && (is_process n r.to && list_any (λ (x : SignalNumber). x.0 == s.0) r.signals)

abbrev pub same_sort : Sort → Sort → Bool
same_sort Integer Integer = true
same_sort Integer Boolean = false
same_sort Boolean Integer = false
same_sort Boolean Boolean = true

abbrev pub same_sorts : List Sort → List Sort → Bool
same_sorts [] [] = true
same_sorts [] (y ∷ ys) = false
same_sorts (x ∷ xs) [] = false
same_sorts (x ∷ xs) (y ∷ ys) = same_sort x y && same_sorts xs ys

-- the signal is declared, a route brings it from the environment to process n, and the values have
-- the sorts of its parameters
unfoldable pub is_offered : Draft → ℕ → SignalNumber → List Value → Bool
is_offered d n s vs = list_any (offers n s) d.routes
    && (nat_lt s.0 (length d.signals)
    && same_sorts (map sort_of vs) (parameters_of (slice_get d.signals s.0)))

unfoldable pub offer_rows : Draft → Offered → Actor → List (Bool × Refusal)
offer_rows d o a =
    (has_stopped a.standing, Stopped)
    ∷ (not (is_offered d a.name.process.0 o.signal o.values.items), NoRoute)
    ∷ (is_full a.port, Full)
    ∷ []

-- ---- turns

abbrev pub is_nothing : Found → Bool
is_nothing found.Nothing = true
is_nothing found.Start = false
is_nothing (found.Input i) = false
is_nothing found.Ignored = false

abbrev pub is_ignored : Found → Bool
is_ignored found.Nothing = false
is_ignored found.Start = false
is_ignored (found.Input i) = false
is_ignored found.Ignored = true

-- the greatest number of turns has begun
abbrev pub is_counted_out : ℕ → Bool
is_counted_out turns = nat_le MOST_TURNS_BEGUN turns

unfoldable pub begin_rows : Draft → ℕ → Actor → List (Bool × Refusal)
begin_rows d turns a =
    (is_out a, Busy)
    ∷ (is_nothing (looks d a), Nothing)
    ∷ (is_ignored (looks d a), SkipFirst)
    ∷ (is_counted_out turns, CountFull)
    ∷ []

unfoldable pub skip_rows : Draft → Actor → List (Bool × Refusal)
skip_rows d a =
    (is_out a, Busy)
    ∷ (is_nothing (looks d a), Nothing)
    ∷ (not (is_ignored (looks d a)), NotIgnored)
    ∷ []

abbrev pub finish_row : Option Actor → Option Refusal
finish_row None = Some Stranger
finish_row (Some a) = if is_out a then None else Some Stranger

-- ---- the clock and the environment

unfoldable pub advance_rows : ℕ → ℕ → List (Bool × Refusal)
advance_rows clock ticks =
    (nat_lt MOST_TICKS ticks, TooFar) ∷ (nat_lt LAST_TICK (clock + ticks), ClockFull) ∷ []

abbrev pub empty_row : Ring → Option Refusal
empty_row r = if length r.items == 0 then Some Empty else None

-- ---- all events

abbrev pub of_actor : (Actor → Option Refusal) → Option Actor → Option Refusal
of_actor f None = Some NoActor
of_actor f (Some a) = f a

-- why a link refuses an event, if the journal has room
unfoldable pub refuses : Draft → Core → Event → Option Refusal
refuses d w (Offer o) = of_actor (λ a. first_of (offer_rows d o a)) (slice_get w.actors o.actor)
refuses d w (Begin n) = of_actor (λ a. first_of (begin_rows d w.turns a)) (slice_get w.actors n)
refuses d w (Skip n) = of_actor (λ a. first_of (skip_rows d a)) (slice_get w.actors n)
refuses d w (Finish n) = finish_row (slice_get w.actors n)
refuses d w (Advance k) = first_of (advance_rows w.timers.clock k)
refuses d w TakeEnv = empty_row w.ring

-- the number of free places that an event needs: a turn that begins keeps one for its end
abbrev pub needs : Event → ℕ
needs (Offer o) = 1
needs (Begin n) = 2
needs (Skip n) = 1
needs (Finish n) = 0
needs (Advance k) = 1
needs TakeEnv = 1

abbrev pub with_room : ℕ → Event → Option Refusal → Option Refusal
with_room room e None = if nat_lt room (needs e) then Some JournalFull else None
with_room room e (Some r) = Some r

-- why a link whose journal has this many free places refuses an event
abbrev pub refuses_in : Draft → Core → ℕ → Event → Option Refusal
refuses_in d w room e = with_room room e (refuses d w e)
