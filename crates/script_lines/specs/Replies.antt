-- The lines printed for the answers of a link, as bytes without line ends: names as they are
-- declared, numbers in decimal.
use Rattle.std.specs.Prelude.{ℕ, List, [], ◌∷◌, ◌++◌, ◌==◌, nat_lt, if◌then◌else◌, Option, None}
use Rattle.std.specs.Prelude.{Some, codes, slice_get, unwrap_or, length}
use Rattle.std.specs.List.{flat_map}
use Rattle.std.specs.Fmt.{decimal, signed_decimal}
use Rattle.turn_code.specs.declared.value.Value.{Value}
use Rattle.turn_code.specs.declared.value.Value.TheVariants.{Int, Bool as Truth}
use Rattle.turn_code.specs.declared.machine.End.{End}
use Rattle.turn_code.specs.declared.machine.End.TheVariants as ends
use Rattle.turn_code.specs.declared.input.Place.{Place}
use Rattle.turn_code.specs.declared.input.Place.TheVariants.{Start, State}
use Rattle.turn_code.specs.declared.draft.Draft.{Draft}
use Rattle.turn_code.specs.declared.draft.Trigger.{Trigger}
use Rattle.turn_code.specs.declared.draft.Trigger.TheVariants.{Signal, Timer}
use Rattle.turn_check.specs.Named.{instances_at, process_names, signal_names, timer_names}
use Rattle.turn_check.specs.Named.{state_names, trigger_at}
use Rattle.actor_machine.specs.declared.name.ActorName.{ActorName}
use Rattle.actor_machine.specs.declared.actor.Standing.{Standing}
use Rattle.actor_machine.specs.declared.actor.Standing.TheVariants.{At, Stopped}
use Rattle.actor_machine.specs.declared.reply.Report.{Report}
use Rattle.actor_machine.specs.declared.reply.Emitted.{Emitted}

-- ---- names by number; empty if there is none

abbrev pub process_text : Draft → ℕ → List ℕ
process_text d p = unwrap_or (slice_get (process_names d) p) []

abbrev pub signal_text : Draft → ℕ → List ℕ
signal_text d s = unwrap_or (slice_get (signal_names d) s) []

abbrev pub state_text : Draft → ℕ → ℕ → List ℕ
state_text d p q = unwrap_or (slice_get (state_names d p) q) []

abbrev pub trigger_text : Draft → ℕ → Trigger → List ℕ
trigger_text d p (Signal s) = signal_text d s.0
trigger_text d p (Timer t) = unwrap_or (slice_get (timer_names d p) t.0) []

abbrev pub input_text : Draft → ℕ → Option Trigger → List ℕ
input_text d p None = []
input_text d p (Some x) = trigger_text d p x

-- ---- values

abbrev pub value_text : Value → List ℕ
value_text (Int z) = signed_decimal z
value_text (Truth b) = if b then codes "true" else codes "false"

-- ---- turns

-- `START`, or `STATE/INPUT`
abbrev pub place_text : Draft → ℕ → Place → ℕ → List ℕ
place_text d p Start number = codes "START"
place_text d p (State q) number =
    state_text d p q.0 ++ codes "/" ++ input_text d p (trigger_at d p q.0 number)

abbrev pub begun_text : Draft → ℕ → Place → ℕ → List ℕ
begun_text d p s number = codes "ok " ++ place_text d p s number

abbrev pub end_text : Draft → ℕ → End → List ℕ
end_text d p (ends.State q) = state_text d p q.0
end_text d p ends.Stop = codes "STOP"

abbrev pub lost_text : ℕ → List ℕ
lost_text k = if k == 0 then [] else codes " lost " ++ decimal k

abbrev pub counts_text : ℕ → ℕ → List ℕ
counts_text count lost = codes " count " ++ decimal count ++ lost_text lost

abbrev pub finished_text : Draft → ℕ → Report → List ℕ
finished_text d p r = codes "ok " ++ end_text d p r.end ++ counts_text r.count (length r.lost.items)

abbrev pub skipped_text : Draft → ℕ → Trigger → List ℕ
skipped_text d p x = codes "ok " ++ trigger_text d p x

-- ---- signals for the environment

-- `.k` after the process if it has more than one instance, else nothing.
abbrev pub instance_text : ℕ → ℕ → List ℕ
instance_text n k = if nat_lt 1 n then codes "." ++ decimal k else []

abbrev pub sender_text : Draft → ActorName → List ℕ
sender_text d x =
    process_text d x.process.0 ++ instance_text (instances_at d x.process.0) x.instance.0

abbrev pub taken_text : Draft → Emitted → List ℕ
taken_text d x =
    sender_text d x.sender ++ codes " " ++ signal_text d x.signal.0
    ++ flat_map (λ v. 32 ∷ value_text v) x.parameters.items

-- ---- states

abbrev pub standing_text : Draft → ℕ → Standing → List ℕ
standing_text d p (At Start) = codes "START"
standing_text d p (At (State q)) = state_text d p q.0
standing_text d p Stopped = codes "STOPPED"
