-- The machine of a link: the next state and the answer of an accepted event (Z.100, the behaviour
-- of a set of processes).
use Rattle.std.specs.Prelude.{ℕ, ◌+◌, List, [], ◌∷◌, length, Option, None, Some, Result, Ok, Err}
use Rattle.std.specs.Prelude.{slice_get}
use Rattle.turn_code.specs.Run.{of_party}
use Rattle.turn_code.specs.Outcome.{Outcome, Meaning}
use Rattle.turn_code.specs.declared.trouble.Trouble.{Trouble}
use Rattle.turn_code.specs.declared.input.Place.{Place}
use Rattle.turn_code.specs.declared.input.Place.TheVariants.{Start}
use Rattle.turn_code.specs.declared.input.Party.TheVariants.{Environment}
use Rattle.turn_code.specs.declared.draft.Draft.{Draft}
use Rattle.input_port.specs.declared.queue.Arrival.{Arrival}
use Rattle.input_port.specs.declared.queue.Item.{Item}
use Rattle.actor_machine.specs.declared.name.ActorName.{ActorName}
use Rattle.tick_wheel.specs.Timers.{due, not_due}
use Rattle.tick_wheel.specs.declared.Due.{Due}
use Rattle.actor_machine.specs.Core.{Core, change}
use Rattle.actor_machine.specs.Looking.{looks, item_at, trigger_of, number_in, begun, skipped}
use Rattle.actor_machine.specs.Effects.{receives, hears, finished, lost_in}
use Rattle.actor_machine.specs.declared.actor.Actor.{Actor}
use Rattle.actor_machine.specs.declared.actor.Given.{Given}
use Rattle.actor_machine.specs.declared.actor.Standing.{Standing}
use Rattle.actor_machine.specs.declared.actor.Standing.TheVariants.{At, Stopped}
use Rattle.actor_machine.specs.declared.event.Event.{Event}
use Rattle.actor_machine.specs.declared.event.Event.TheVariants.{Offer, Begin, Skip, Finish}
use Rattle.actor_machine.specs.declared.event.Event.TheVariants.{Advance, TakeEnv}
use Rattle.actor_machine.specs.declared.event.Offer.{Offer as Offered}
use Rattle.actor_machine.specs.declared.reply.Begun.{Begun}
use Rattle.actor_machine.specs.declared.reply.Emitted.{Emitted}
use Rattle.actor_machine.specs.declared.reply.Refusal.TheVariants.{Empty, NoActor, Nothing}
use Rattle.actor_machine.specs.declared.reply.Refusal.TheVariants.{Stranger}
use Rattle.actor_machine.specs.declared.reply.Report.{Report}
use Rattle.actor_machine.specs.declared.reply.Reply.{Reply}
use Rattle.actor_machine.specs.declared.reply.Reply.TheVariants as reply

-- An answer: the trouble in which a turn gets stuck, or a reply of the link. No reply is of the
-- first kind. A turn gets stuck if it reads a variable that isn't set, meets an operand that is
-- missing or of the wrong sort, has no next state, no receiver or no answer to a DECISION, or
-- leaves its code.
pub data Answer : Type 0 where
  Stuck : Trouble → Answer
  Says : Reply → Answer

-- the next state and the answer of an event
pub record Stepped : Type 0 where
  pub to : Core
  pub answer : Answer

-- ---- offers

abbrev pub offered_arrival : Offered → Arrival
offered_arrival o =
    record { signal = o.signal; parameters = o.values; sender = of_party Environment }

-- ---- begins and skips

abbrev pub place_of : Standing → Place
place_of (At s) = s
place_of Stopped = Start

abbrev pub begun_now : Draft → ℕ → Actor → Begun
begun_now d turn a =
    record { turn = turn; place = place_of a.standing; number = number_in (looks d a) }

abbrev pub begin_reply : Draft → ℕ → Option Actor → Reply
begin_reply d turn None = reply.Refused NoActor
begin_reply d turn (Some a) = reply.Begun (begun_now d turn a)

abbrev pub skip_reply_of : Option Item → Reply
skip_reply_of None = reply.Refused Nothing
skip_reply_of (Some x) = reply.Skipped (trigger_of x)

abbrev pub skip_reply : Draft → Option Actor → Reply
skip_reply d None = reply.Refused NoActor
skip_reply d (Some a) = skip_reply_of (item_at d a.name.process.0 a.standing a.port.items)

-- ---- finishes

-- the result of the turn that an actor of process p has out, by a meaning of turns; none if it has
-- none out
abbrev pub result_given : Meaning → ℕ → Standing → Option Given → Option (Result Outcome Trouble)
result_given m p (At s) (Some g) = Some (m p s g.number g.input)
result_given m p (At s) None = None
result_given m p Stopped g = None

abbrev pub report_of : ℕ → ActorName → Outcome → Core → Report
report_of n me o w =
    record { end = o.end; count = o.progress.count; lost = record { items = lost_in n me o w } }

-- actor n, named `me`, ends its turn with this result
abbrev pub finish_by : ℕ → ActorName → Core → Option (Result Outcome Trouble) → Stepped
finish_by n me w None = record { to = w; answer = Says (reply.Refused Stranger) }
finish_by n me w (Some (Err x)) = record { to = w; answer = Stuck x }
finish_by n me w (Some (Ok o)) =
    record { to = finished n me o w; answer = Says (reply.Finished (report_of n me o w)) }

abbrev pub finish_at : Meaning → ℕ → Core → Option Actor → Stepped
finish_at m n w None = record { to = w; answer = Says (reply.Refused Stranger) }
finish_at m n w (Some a) = finish_by n a.name w (result_given m a.name.process.0 a.standing a.given)

-- ---- the clock and the environment

-- the signal of each due timer goes to its actor's port, in order
abbrev pub notified : List Actor → List Due → List Actor
notified actors [] = actors
notified actors (x ∷ xs) = notified (change actors x.timer.actor (hears x.timer.number)) xs

abbrev pub due_in : Core → ℕ → List Due
due_in w k = due w.timers.deadlines (w.timers.clock + k)

unfoldable pub passed : ℕ → Core → Core
passed k w = record w {
  actors = notified w.actors (due_in w k);
  timers = record {
    clock = w.timers.clock + k;
    deadlines = not_due w.timers.deadlines (w.timers.clock + k);
  };
}

abbrev pub tail_of : List Emitted → List Emitted
tail_of [] = []
tail_of (x ∷ xs) = xs

abbrev pub take_reply : List Emitted → Reply
take_reply [] = reply.Refused Empty
take_reply (x ∷ xs) = reply.Taken x

-- ---- all events

-- the step of an event that isn't refused, by a meaning of turns
unfoldable pub step : Draft → Meaning → Core → Event → Stepped
step d m w (Offer o) =
    record {
      to = record w { actors = change w.actors o.actor (receives (offered_arrival o)) };
      answer = Says reply.Offered;
    }
step d m w (Begin n) = record {
  to = record w { actors = change w.actors n (begun d w.turns); turns = w.turns + 1 };
  answer = Says (begin_reply d w.turns (slice_get w.actors n));
}
step d m w (Skip n) = record {
  to = record w { actors = change w.actors n (skipped d) };
  answer = Says (skip_reply d (slice_get w.actors n));
}
step d m w (Finish n) = finish_at m n w (slice_get w.actors n)
step d m w (Advance k) =
    record { to = passed k w; answer = Says (reply.Passed (length (due_in w k))) }
step d m w TakeEnv = record {
  to = record w { ring = record w.ring { items = tail_of w.ring.items } };
  answer = Says (take_reply w.ring.items);
}
