-- The effect of each command of a book script on a book, and the line that it prints.
use Rattle.std.specs.Prelude.{ℕ, zero, suc, List, [], ◌++◌, Option, None, Some, Result, Ok, Err}
use Rattle.std.specs.Prelude.{option_map, slice_get, codes}
use Rattle.std.specs.Fmt.{decimal}
use Rattle.turn_code.specs.declared.value.Value.{Value}
use Rattle.turn_code.specs.declared.draft.Draft.{Draft}
use Rattle.turn_check.specs.Named.{signal_names, variable_names}
use Rattle.script_lines.specs.ActorWords.{number_of, actor_called}
use Rattle.script_lines.specs.declared.word.Called.{Called}
use Rattle.actor_machine.specs.Ledger.{Ledger, state_of, ask}
use Rattle.actor_machine.specs.Step.{Answer, Stuck, Says}
use Rattle.actor_machine.specs.declared.actor.Actor.{Actor}
use Rattle.actor_machine.specs.declared.actor.Standing.{Standing}
use Rattle.actor_machine.specs.declared.event.Event.{Event}
use Rattle.actor_machine.specs.declared.event.Event.TheVariants as event
use Rattle.actor_machine.specs.declared.reply.Refusal.{Refusal}
use Rattle.actor_machine.specs.declared.reply.Refusal.TheVariants.{NoActor, NoRoute}
use Rattle.actor_machine.specs.declared.reply.Reply.{Reply}
use Rattle.actor_machine.specs.declared.reply.Reply.TheVariants as reply
use Rattle.actor_book.specs.Shown.{variable_of}
use Rattle.actor_book.specs.Turns.{MOST_TURNS, rests, refusal_in}
use Rattle.script_lines.specs.Commands.{PlainOffer, PlainCommand, offer, flood, call, tick, env}
use Rattle.script_lines.specs.Commands.{rest, value, expect}
use Rattle.script_lines.specs.declared.verbs.Call.{Call}
use Rattle.script_lines.specs.declared.verbs.Call.TheVariants.{Begin, Finish, Skip, State}
use Rattle.script_lines.specs.Replies.{begun_text, finished_text, skipped_text, taken_text}
use Rattle.script_lines.specs.Replies.{standing_text, value_text}
use Rattle.script_lines.specs.Refused.{refused_text}

-- ---- names

-- The actor that a word names: an instance of a process.
abbrev pub actor_named : Ledger → List ℕ → Option Called
actor_named b word = actor_called b.set word

abbrev pub signal_named : Ledger → List ℕ → Option ℕ
signal_named b name = number_of (signal_names b.set) name

abbrev pub variable_named : Ledger → ℕ → List ℕ → Option ℕ
variable_named b p name = number_of (variable_names b.set p) name

-- ---- answers

-- The line of a reply, with the names of the states and inputs of process p.
abbrev pub reply_text : Draft → ℕ → Reply → List ℕ
reply_text d p reply.Offered = codes "ok"
reply_text d p (reply.Begun x) = begun_text d p x.place x.number
reply_text d p (reply.Skipped x) = skipped_text d p x
reply_text d p (reply.Finished r) = finished_text d p r
reply_text d p (reply.Passed due) = codes "ok due " ++ decimal due
reply_text d p (reply.Taken x) = taken_text d x
reply_text d p (reply.Refused r) = refused_text r

-- No turn of a book gets stuck, so `Stuck` has no line.
abbrev pub answer_text : Draft → ℕ → Answer → List ℕ
answer_text d p (Stuck x) = []
answer_text d p (Says r) = reply_text d p r

-- A book after a command, and the line that the command prints.
pub record Answered : Type 0 where
  pub book : Ledger
  pub line : List ℕ

-- A line, with an unchanged book.
abbrev pub says : Ledger → List ℕ → Answered
says b line = record { book = b; line = line }

abbrev pub refused : Ledger → Refusal → Answered
refused b r = says b (refused_text r)

-- An event happens, or is refused.
abbrev pub by_event : Ledger → ℕ → Event → Answered
by_event b p e = record { book = (ask b e).book; line = answer_text b.set p (ask b e).answer }

-- ---- commands on an actor

-- The line of a state.
abbrev pub standing_line : Ledger → ℕ → Option Standing → List ℕ
standing_line b p None = refused_text NoActor
standing_line b p (Some s) = standing_text b.set p s

abbrev pub standing_at : Ledger → ℕ → Option Standing
standing_at b n = option_map (λ (a : Actor). a.standing) (slice_get (state_of b).actors n)

-- The line of `state` for an actor, if it exists.
abbrev pub state_line : Ledger → Option Called → List ℕ
state_line b None = refused_text NoActor
state_line b (Some x) = standing_line b x.name.process.0 (standing_at b x.number)

abbrev pub called : Ledger → Call → Called → Answered
called b Begin x = by_event b x.name.process.0 (event.Begin x.number)
called b Finish x = by_event b x.name.process.0 (event.Finish x.number)
called b Skip x = by_event b x.name.process.0 (event.Skip x.number)
called b State x = says b (state_line b (Some x))

-- The call on the actor with that name, if it exists.
abbrev pub calls : Ledger → Call → Option Called → Answered
calls b c None = refused b NoActor
calls b c (Some x) = called b c x

-- ---- variables

abbrev pub shown : Option Value → List ℕ
shown None = codes "unset"
shown (Some v) = value_text v

abbrev pub variable_line : Ledger → ℕ → Option ℕ → List ℕ
variable_line b n None = codes "unset"
variable_line b n (Some x) = shown (variable_of (slice_get (state_of b).actors n) x)

abbrev pub value_line : Ledger → List ℕ → Option Called → List ℕ
value_line b name None = refused_text NoActor
value_line b name (Some x) = variable_line b x.number (variable_named b x.name.process.0 name)

-- ---- offers

-- A book after offers, and why the last one was refused, if it was.
pub record Took : Type 0 where
  pub book : Ledger
  pub refusal : Option Refusal

abbrev pub took : Ledger → Event → Took
took b e = record { book = (ask b e).book; refusal = refusal_in (ask b e).answer }

abbrev pub offered_by : Ledger → List Value → Option Called → Option ℕ → Took
offered_by b values None s = record { book = b; refusal = Some NoActor }
offered_by b values (Some x) None = record { book = b; refusal = Some NoRoute }
offered_by b values (Some x) (Some s) =
    took b (event.Offer
    (record {
      actor = x.number;
      signal = record { 0 = s };
      values = record { items = values };
    }))

-- Why a call was refused, if it was.
abbrev pub why : {A : Type 0} → Result A Refusal → Option Refusal
why (Ok x) = None
why (Err r) = Some r

-- One offer; the names are looked up.
abbrev pub offered : Ledger → PlainOffer → Took
offered b o = offered_by b o.values (actor_named b o.process) (signal_named b o.signal)

-- The refusal if the actor or the signal doesn't exist.
abbrev pub looked_up : Option Called → Option ℕ → Option Refusal
looked_up None s = Some NoActor
looked_up (Some x) None = Some NoRoute
looked_up (Some x) (Some s) = None

-- If the first offer is taken, a rest and the other offers follow.
abbrev pub goes_on : Took → Took → Option Refusal → Took
goes_on first others None = others
goes_on first others (Some r) = first

-- `k` offers, with a rest after each, up to the first one refused.
unfoldable pub floods : ℕ → PlainOffer → Ledger → Took
floods zero o b = record { book = b; refusal = None }
floods (suc k) o b =
    goes_on (offered b o) (floods k o (rests MOST_TURNS (offered b o).book).book)
    (offered b o).refusal

abbrev pub flooded : ℕ → PlainOffer → Ledger → Option Refusal → Took
flooded n o b None = floods n o b
flooded n o b (Some r) = record { book = b; refusal = Some r }

abbrev pub done_text : Option Refusal → List ℕ
done_text None = codes "ok"
done_text (Some r) = refused_text r

abbrev pub done : Took → Answered
done t = record { book = t.book; line = done_text t.refusal }

-- ---- rests

abbrev pub rested : Ledger → Answered
rested b = record {
  book = (rests MOST_TURNS b).book;
  line = codes "rest "
      ++ decimal (rests MOST_TURNS b).turns;
}

-- ---- all commands

-- The effect of a command on a book, and its line; `expect` has no effect on a book.
unfoldable pub obeyed : Ledger → PlainCommand → Answered
obeyed b (offer o) = done (offered b o)
obeyed b (flood n o) =
    done (flooded n o b (looked_up (actor_named b o.process) (signal_named b o.signal)))
obeyed b (call c name) = calls b c (actor_named b name)
obeyed b (tick n) = by_event b 0 (event.Advance n)
obeyed b env = by_event b 0 event.TakeEnv
obeyed b rest = rested b
obeyed b (value process name) = says b (value_line b name (actor_named b process))
obeyed b (expect text) = says b []
