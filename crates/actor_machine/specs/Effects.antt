-- The effects of a turn on its link as the turn ends (Z.100, output, set, reset, stop).
use Rattle.std.specs.Prelude.{ℕ, zero, suc, ◌+◌, ◌==◌, ℤ, pos, negsuc, Bool, List, [], ◌∷◌, ◌++◌}
use Rattle.std.specs.Prelude.{length, max, nat_lt, Option, None, Some, option_to_list}
use Rattle.std.specs.Prelude.{if◌then◌else◌}
use Rattle.std.specs.FinMap as map
use Rattle.plain_laws.specs.Limits.{MOST_TIMERS_EACH}
use Rattle.turn_code.specs.Outcome.{Outcome}
use Rattle.turn_code.specs.declared.numbers.InstanceNumber.{InstanceNumber}
use Rattle.turn_code.specs.declared.input.Party.{Party}
use Rattle.turn_code.specs.declared.input.Party.TheVariants.{Environment, Process}
use Rattle.turn_code.specs.declared.input.Place.TheVariants.{State as AtState}
use Rattle.turn_code.specs.declared.effect.Effect.{Effect}
use Rattle.turn_code.specs.declared.effect.Effect.TheVariants.{Output, Set, Reset}
use Rattle.turn_code.specs.declared.effect.Sending.{Sending}
use Rattle.turn_code.specs.declared.machine.End.{End}
use Rattle.turn_code.specs.declared.machine.End.TheVariants.{State, Stop}
use Rattle.input_port.specs.Queue.{Queue, signal_count, without_timer}
use Rattle.input_port.specs.declared.queue.Arrival.{Arrival}
use Rattle.input_port.specs.declared.queue.Item.TheVariants.{Signal, Timer}
use Rattle.tick_wheel.specs.TimerId.{TimerId}
use Rattle.tick_wheel.specs.Timers.{Timers}
use Rattle.actor_machine.specs.Names.{address_of, number_for}
use Rattle.actor_machine.specs.declared.name.ActorName.{ActorName}
use Rattle.actor_machine.specs.Core.{Core, Ring, change, change_found, found_in, names_in}
use Rattle.actor_machine.specs.declared.actor.Actor.{Actor}
use Rattle.actor_machine.specs.declared.actor.Standing.{Standing}
use Rattle.actor_machine.specs.declared.actor.Standing.TheVariants.{At, Stopped}
use Rattle.actor_machine.specs.declared.reply.Cause.{Cause}
use Rattle.actor_machine.specs.declared.reply.Cause.TheVariants as cause
use Rattle.actor_machine.specs.declared.reply.Emitted.{Emitted}
use Rattle.actor_machine.specs.declared.reply.Lost.{Lost}

-- ---- ports

-- as many signals wait as the capacity allows
abbrev pub is_full : Queue → Bool
is_full q = signal_count q.items == q.capacity

-- the signal is added after the other items, if there is room
abbrev pub with_arrival : Queue → Arrival → Queue
with_arrival q arrival =
    if is_full q then q else record q { items = q.items ++ Signal arrival ∷ [] }

abbrev pub reached : Actor → Arrival → Standing → Actor
reached a arrival (At s) = record a { port = with_arrival a.port arrival }
reached a arrival Stopped = a

-- the actor after a signal is sent to it; one that has stopped takes none
abbrev pub receives : Arrival → Actor → Actor
receives arrival a = reached a arrival a.standing

abbrev pub refusal_at : Queue → Standing → Option Cause
refusal_at q (At s) = if is_full q then Some cause.Full else None
refusal_at q Stopped = Some cause.Stopped

-- why the actor doesn't take the signal; none if it does
abbrev pub refusal_in : Option Actor → Option Cause
refusal_in None = Some cause.Stopped
refusal_in (Some a) = refusal_at a.port a.standing

-- the actor without the signal of a timer
abbrev pub drops : ℕ → Actor → Actor
drops timer a = record a { port = record a.port { items = without_timer a.port.items timer } }

-- the actor with the signal of a timer after the other items
abbrev pub hears : ℕ → Actor → Actor
hears timer a =
    record a {
      port = record a.port {
        items = without_timer a.port.items timer
            ++ Timer (record { 0 = timer }) ∷ [];
      };
    }

-- ---- the environment

abbrev pub has_room : Ring → Bool
has_room r = nat_lt (length r.items) r.capacity

-- the signal is added after those that wait, if there is room
abbrev pub with_emitted : Ring → Emitted → Ring
with_emitted r x = if has_room r then record r { items = r.items ++ x ∷ [] } else r

-- ---- timers

abbrev pub timer_of : ℕ → ℕ → TimerId
timer_of n timer = record { actor = n; number = timer }

-- the number of ticks until the timer of a SET expires: at least 1
abbrev pub delay : ℤ → ℕ
delay (pos k) = max 1 k
delay (negsuc k) = 1

abbrev pub until : Timers → ℕ → ℕ → ℕ → Timers
until ts n timer k =
    record {
      clock = ts.clock;
      deadlines = map.insert ts.deadlines (timer_of n timer) (ts.clock + k);
    }

abbrev pub without : Timers → ℕ → ℕ → Timers
without ts n timer =
    record { clock = ts.clock; deadlines = map.remove ts.deadlines (timer_of n timer) }

-- the timers without the first k timers of actor n
abbrev pub without_first_timers : Timers → ℕ → ℕ → Timers
without_first_timers ts n zero = ts
without_first_timers ts n (suc k) = without (without_first_timers ts n k) n k

-- no timer of actor n is active; the others are unchanged
unfoldable pub without_timers : Timers → ℕ → Timers
without_timers ts n = without_first_timers ts n MOST_TIMERS_EACH

-- ---- one effect of a turn of actor n, whose name is `me`

abbrev pub arrival_of : ActorName → Sending → Arrival
arrival_of me s = record { signal = s.signal; parameters = s.parameters; sender = address_of me }

abbrev pub emitted_of : ActorName → Sending → Emitted
emitted_of me s = record { sender = me; signal = s.signal; parameters = s.parameters }

-- a signal goes to the environment, or to an actor of a process: to the named instance if one is
-- named
abbrev pub delivered : ActorName → Core → Sending → Party → Option InstanceNumber → Core
delivered me w s Environment k = record w { ring = with_emitted w.ring (emitted_of me s) }
delivered me w s (Process p) k =
    record w {
      actors = change_found w.actors (number_for (names_in w.actors) me p k)
          (receives (arrival_of me s));
    }

abbrev pub undelivered : ActorName → Core → Party → Option InstanceNumber → Option Cause
undelivered me w Environment k = if has_room w.ring then None else Some cause.EnvFull
undelivered me w (Process p) k =
    refusal_in (found_in w.actors (number_for (names_in w.actors) me p k))

-- the state after an effect: an output goes to its receiver; SET and RESET remove the signal of the
-- timer, and SET starts the timer anew
abbrev pub laid : ℕ → ActorName → Core → Effect → Core
laid n me w (Output s) = delivered me w s s.receiver.party s.receiver.instance
laid n me w (Set t z) =
    record w { actors = change w.actors n (drops t.0); timers = until w.timers n t.0 (delay z) }
laid n me w (Reset t) =
    record w { actors = change w.actors n (drops t.0); timers = without w.timers n t.0 }

abbrev pub lost_for : ℕ → Option Cause → Option Lost
lost_for k None = None
lost_for k (Some c) = Some (record { place = k; cause = c })

-- an output that is lost, with its place among the effects
abbrev pub lost_by : ActorName → Core → ℕ → Effect → Option Lost
lost_by me w k (Output s) = lost_for k (undelivered me w s.receiver.party s.receiver.instance)
lost_by me w k (Set t z) = None
lost_by me w k (Reset t) = None

-- ---- all effects of a turn, in text order

abbrev pub laid_all : ℕ → ActorName → Core → List Effect → Core
laid_all n me w [] = w
laid_all n me w (e ∷ es) = laid_all n me (laid n me w e) es

-- the outputs that are lost; the first effect has place k
abbrev pub losses : ℕ → ActorName → Core → ℕ → List Effect → List Lost
losses n me w k [] = []
losses n me w k (e ∷ es) =
    option_to_list (lost_by me w k e) ++ losses n me (laid n me w e) (k + 1) es

-- ---- the end of a turn

-- the actor has the turn's new variables, and no turn out
abbrev pub settled : Outcome → Actor → Actor
settled o a = record a { variables = record { items = o.progress.variables }; given = None }

abbrev pub moved : End → Actor → Actor
moved (State q) a = record a { standing = At (AtState q) }
moved Stop a = record a { standing = Stopped; port = record a.port { items = [] } }

abbrev pub timers_after : End → Timers → ℕ → Timers
timers_after (State q) ts n = ts
timers_after Stop ts n = without_timers ts n

-- the actor goes to the next state; a STOP empties its port and resets its timers
abbrev pub ended : ℕ → End → Core → Core
ended n e w = record w { actors = change w.actors n (moved e); timers = timers_after e w.timers n }

-- the state in which the effects begin: the actor has its new variables, and the turn and its
-- instructions are counted
abbrev pub started : ℕ → Outcome → Core → Core
started n o w =
    record w {
      actors = change w.actors n (settled o);
      finishes = w.finishes + 1;
      instructions = w.instructions + o.progress.count;
    }

unfoldable pub finished : ℕ → ActorName → Outcome → Core → Core
finished n me o w = ended n o.end (laid_all n me (started n o w) o.progress.effects)

-- the outputs of the turn that are lost
unfoldable pub lost_in : ℕ → ActorName → Outcome → Core → List Lost
lost_in n me o w = losses n me (started n o w) 0 o.progress.effects
