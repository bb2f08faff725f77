-- A chart of turns, in the language of mscgen.
use Rattle.std.specs.Prelude.{ℕ, ◌+◌, ◌*◌, ◌==◌, nat_le, Bool, true, false, not, ◌&&◌, ◌||◌, List}
use Rattle.std.specs.Prelude.{[], ◌∷◌, ◌++◌, length, Option, None, Some, is_some, codes, map}
use Rattle.std.specs.Prelude.{filter, if◌then◌else◌, ◌≡◌}
use Rattle.std.specs.List.{flat_map, list_any}
use Rattle.std.specs.Fmt.{decimal}
use Rattle.turn_code.specs.Outcome.{Outcome, effects_of}
use Rattle.turn_code.specs.declared.draft.Draft.{Draft}
use Rattle.turn_code.specs.declared.draft.Trigger.{Trigger}
use Rattle.turn_code.specs.declared.draft.Trigger.TheVariants as trigger
use Rattle.turn_code.specs.declared.effect.Effect.{Effect}
use Rattle.turn_code.specs.declared.effect.Effect.TheVariants.{Output, Set, Reset}
use Rattle.turn_code.specs.declared.effect.Sending.{Sending}
use Rattle.turn_code.specs.declared.input.Address.{Address}
use Rattle.turn_code.specs.declared.input.Party.{Party}
use Rattle.turn_code.specs.declared.input.Party.TheVariants.{Environment, Process}
use Rattle.turn_code.specs.declared.input.Place.{Place}
use Rattle.turn_code.specs.declared.input.Place.TheVariants.{Start, State as AtState}
use Rattle.turn_code.specs.declared.machine.End.{End}
use Rattle.turn_code.specs.declared.numbers.InstanceNumber.{InstanceNumber}
use Rattle.turn_code.specs.declared.value.Value.{Value}
use Rattle.turn_check.specs.Named.{trigger_at}
use Rattle.script_seen.specs.Turn.{Turn, sender_of}
use Rattle.actor_machine.specs.Effects.{delay}
use Rattle.actor_machine.specs.Names.{actors_of, same_actor, address_of}
use Rattle.actor_machine.specs.declared.name.ActorName.{ActorName}
use Rattle.actor_machine.specs.declared.reply.Lost.{Lost}
use Rattle.script_lines.specs.Replies.{sender_text, signal_text, end_text, value_text}
use Rattle.script_seen.specs.Told.{party_text, timer_text, meant, lost_at, is_dull, stays_in}
use Rattle.script_seen.specs.Watched.{Notice, TurnEnd, turns_in}
use Rattle.script_seen.specs.declared.turns.Ended.{Ended}
use Rattle.script_play.specs.declared.charts.Chart.{Chart}
use Rattle.script_play.specs.declared.charts.Cut.{Cut}
use Rattle.script_play.specs.declared.columns.Columns.{Columns}

abbrev pub quoted : List ℕ → List ℕ
quoted text = codes "\"" ++ text ++ codes "\""

-- the text after a name in a chart: a label, and the end of the row
abbrev pub labelled : List ℕ → List ℕ
labelled text = codes " [label=" ++ quoted text ++ codes "];\n"

abbrev pub actor_quoted : Draft → ActorName → List ℕ
actor_quoted d x = quoted (sender_text d x)

abbrev pub party_quoted : Draft → Party → Option InstanceNumber → List ℕ
party_quoted d p k = quoted (party_text d p k)

-- ---- signals

-- values, with a comma before each
abbrev pub more_values : List Value → List ℕ
more_values vs = flat_map (λ x. codes ", " ++ value_text x) vs

abbrev pub commaed : List Value → List ℕ
commaed [] = []
commaed (v ∷ vs) = value_text v ++ more_values vs

-- a signal with its values in parentheses; without parentheses if it has no values
abbrev pub called_text : Draft → ℕ → List Value → List ℕ
called_text d s [] = signal_text d s
called_text d s (v ∷ vs) = signal_text d s ++ codes "(" ++ commaed (v ∷ vs) ++ codes ")"

-- ---- rows of a turn

abbrev pub clock_text : ℕ → List ℕ
clock_text clock = codes "  ---" ++ labelled (decimal clock ++ codes " ms")

-- the row of the time, if it differs from that of the row before
abbrev pub time_text : Option ℕ → ℕ → List ℕ
time_text None clock = clock_text clock
time_text (Some last) clock = if last == clock then [] else clock_text clock

-- a note or a box of an actor
abbrev pub beside : Draft → ActorName → List ℕ → List ℕ → List ℕ
beside d me kind text =
    codes "  " ++ actor_quoted d me ++ kind ++ actor_quoted d me ++ labelled text

-- the arc of a signal that an actor consumes
abbrev pub taken_text : Draft → ActorName → ℕ → List Value → Option Address → List ℕ
taken_text d me s vs None = []
taken_text d me s vs (Some a) =
    codes "  " ++ party_quoted d a.party a.instance ++ codes " => " ++ actor_quoted d me
    ++ labelled (called_text d s vs)

-- the note of a timer signal that an actor consumes
abbrev pub run_out_text : Draft → ActorName → ℕ → List ℕ
run_out_text d me x =
    beside d me (codes " note ") (timer_text d me.process.0 x ++ codes " runs out")

abbrev pub trigger_text : Draft → ActorName → Turn → Option Trigger → List ℕ
trigger_text d me t None = []
trigger_text d me t (Some (trigger.Signal s)) =
    taken_text d me s.0 t.input.parameters.items t.input.sender
trigger_text d me t (Some (trigger.Timer x)) = run_out_text d me x.0

-- the row of a turn's stimulus; nothing at START
abbrev pub came_text : Draft → ActorName → Turn → Place → List ℕ
came_text d me t Start = []
came_text d me t (AtState q) =
    trigger_text d me t (trigger_at d me.process.0 q.0 t.input_number)

-- the box of a new state, or of STOP
abbrev pub box_text : Draft → ActorName → Place → End → List ℕ
box_text d me s e =
    if stays_in s e then [] else beside d me (codes " abox ") (end_text d me.process.0 e)

-- the receiver of an actor's signal, with the instance that is meant
abbrev pub receiver_of : Draft → ActorName → Party → Option InstanceNumber → Address
receiver_of d me Environment k = record { party = Environment; instance = k }
receiver_of d me (Process p) (Some k) = record { party = Process p; instance = Some k }
receiver_of d me (Process p) None = address_of (meant d me p)

abbrev pub sent_text : Draft → ActorName → Sending → Address → List ℕ → List ℕ
sent_text d me s to arrow =
    codes "  " ++ actor_quoted d me ++ arrow ++ party_quoted d to.party to.instance
    ++ labelled (called_text d s.signal.0 s.parameters.items)

-- whether an output has an arc at its sender: it is lost, or goes to the environment
abbrev pub is_arc : Party → Bool → Bool
is_arc p true = true
is_arc Environment false = true
is_arc (Process p) false = false

abbrev pub arrow_of : Bool → List ℕ
arrow_of true = codes " -x "
arrow_of false = codes " => "

abbrev pub out_text : Draft → ActorName → Bool → Effect → List ℕ
out_text d me lost (Output s) =
    if is_arc s.receiver.party lost
    then sent_text d me s (receiver_of d me s.receiver.party s.receiver.instance) (arrow_of lost)
    else []
out_text d me lost (Set t z) = []
out_text d me lost (Reset t) = []

-- the outputs in the order of the text; the first effect is number k
abbrev pub outs_text : Draft → ActorName → List Lost → ℕ → List Effect → List ℕ
outs_text d me lost k [] = []
outs_text d me lost k (e ∷ es) =
    out_text d me (is_some (lost_at lost k)) e ++ outs_text d me lost (k + 1) es

abbrev pub timing_of : Draft → ℕ → ℕ → Effect → List (List ℕ)
timing_of d p clock (Output s) = []
timing_of d p clock (Set t z) =
    (codes "set " ++ timer_text d p t.0 ++ codes " at " ++ decimal (clock + delay z)) ∷ []
timing_of d p clock (Reset t) = (codes "reset " ++ timer_text d p t.0) ∷ []

-- lines of a label, with mscgen's line break before each
abbrev pub below_each : List (List ℕ) → List ℕ
below_each lines = flat_map (λ l. codes "\\n" ++ l) lines

-- lines of a label, with mscgen's line break between two
abbrev pub stacked : List (List ℕ) → List ℕ
stacked [] = []
stacked (line ∷ lines) = line ++ below_each lines

-- one note about the timers that a turn sets or resets; nothing if there are none
abbrev pub note_of : Draft → ActorName → List (List ℕ) → List ℕ
note_of d me [] = []
note_of d me (line ∷ lines) = beside d me (codes " note ") (stacked (line ∷ lines))

abbrev pub row_text : Draft → TurnEnd → List ℕ
row_text d t =
    came_text d t.me t.turn t.turn.place ++ box_text d t.me t.turn.place t.report.end
    ++ outs_text d t.me t.report.lost.items 0 (effects_of t.outcome)
    ++ note_of d t.me
    (flat_map (timing_of d t.me.process.0 t.clock) (effects_of t.outcome))

-- the rows of turns after a row of this time
abbrev pub rows_text : Draft → Option ℕ → List TurnEnd → List ℕ
rows_text d last [] = []
rows_text d last (t ∷ ts) =
    (time_text last t.clock ++ row_text d t) ++ rows_text d (Some t.clock) ts

-- ---- participants

abbrev pub is_address : Party → Option InstanceNumber → ActorName → Bool
is_address Environment k x = false
is_address (Process p) None x = false
is_address (Process p) (Some k) x = same_actor (record { process = p; instance = k }) x

abbrev pub is_sender : Option Address → ActorName → Bool
is_sender None x = false
is_sender (Some a) x = is_address a.party a.instance x

abbrev pub gets : Draft → ActorName → Bool → Effect → ActorName → Bool
gets d me lost (Output s) x =
    is_arc s.receiver.party lost
    && is_address (receiver_of d me s.receiver.party s.receiver.instance).party
    (receiver_of d me s.receiver.party s.receiver.instance).instance x
gets d me lost (Set t z) x = false
gets d me lost (Reset t) x = false

abbrev pub get_it : Draft → ActorName → List Lost → ℕ → List Effect → ActorName → Bool
get_it d me lost k [] x = false
get_it d me lost k (e ∷ es) x =
    gets d me (is_some (lost_at lost k)) e x || get_it d me lost (k + 1) es x

-- whether an actor is drawn with a turn
abbrev pub is_in : Draft → ActorName → TurnEnd → Bool
is_in d x t =
    same_actor t.me x
    || (is_sender (sender_of t.turn) x
    || get_it d t.me t.report.lost.items 0 (effects_of t.outcome) x)

abbrev pub is_outside : Party → Bool
is_outside Environment = true
is_outside (Process p) = false

abbrev pub came_from_outside : Option Address → Bool
came_from_outside None = false
came_from_outside (Some a) = is_outside a.party

abbrev pub goes_outside : Effect → Bool
goes_outside (Output s) = is_outside s.receiver.party
goes_outside (Set t z) = false
goes_outside (Reset t) = false

-- whether the environment is drawn with a turn
abbrev pub has_outside : TurnEnd → Bool
has_outside t =
    came_from_outside (sender_of t.turn) || list_any goes_outside (effects_of t.outcome)

-- the actors that participate, in the order of the text
abbrev pub actors_in : Draft → List TurnEnd → List ActorName
actors_in d ts = filter (λ x. list_any (is_in d x) ts) (actors_of d.processes)

abbrev pub are_none : List TurnEnd → Bool
are_none [] = true
are_none (t ∷ ts) = false

-- the columns; the environment is first, if it participates or no turn is drawn
abbrev pub drawn_columns : Draft → List TurnEnd → List (List ℕ)
drawn_columns d ts =
    (if list_any has_outside ts || are_none ts then codes "ENV" ∷ [] else [])
    ++ map (sender_text d) (actors_in d ts)

abbrev pub head_of : List ℕ → List ℕ
head_of name = quoted name ++ codes " [label=" ++ quoted name ++ codes "]"

abbrev pub heads : List (List ℕ) → List ℕ
heads [] = []
heads (name ∷ names) = head_of name ++ flat_map (λ n. codes ", " ++ head_of n) names

-- ---- the chart

-- the text after the column heads; mscgen needs at least one row
abbrev pub after_heads : Bool → List ℕ
after_heads true = codes ";\n  |||;\n"
after_heads false = codes ";\n"

-- a turn that ended, with its outcome
abbrev pub end_of : Ended → Outcome → TurnEnd
end_of e o = record { clock = e.clock; me = e.me; turn = e.done; outcome = o; report = e.report }

-- whether a turn is drawn: its number is in the range, and it isn't dull
abbrev pub is_drawn : Cut → TurnEnd → Bool
is_drawn cut t =
    nat_le cut.first t.turn.turn
    && (nat_le t.turn.turn cut.last
    && not (is_dull t.turn.place t.report.end (effects_of t.outcome)))

-- the width of a column, in pixels
abbrev pub COLUMN : ℕ
COLUMN = 140

abbrev pub chart_of : Draft → List TurnEnd → List ℕ
chart_of d ts =
    codes "msc {\n  width=\"" ++ decimal (COLUMN * length (drawn_columns d ts))
    ++ codes "\", arcgradient=\"0\";\n  " ++ heads (drawn_columns d ts)
    ++ after_heads (are_none ts) ++ rows_text d None ts ++ codes "}\n"

abbrev pub chart_text : Draft → Cut → List TurnEnd → List ℕ
chart_text d cut ts = chart_of d (filter (is_drawn cut) ts)

-- the chart of all notices
abbrev pub charted_of : Cut → Draft → List Notice → List ℕ
charted_of cut d ns = chart_text d cut (turns_in ns)

-- ---- partial charts

-- whether an actor is one of these
abbrev pub takes_part : List ActorName → ActorName → Bool
takes_part xs x = list_any (λ y. same_actor y x) xs

-- column heads, with a comma and a space before each
abbrev pub behind_each : List (List ℕ) → List ℕ
behind_each names = flat_map (λ n. codes ", " ++ head_of n) names

-- the names of columns, from the participants that a chart has recorded
abbrev pub columns_of : Draft → Bool → List ActorName → List (List ℕ)
columns_of d outside xs =
    (if outside then codes "ENV" ∷ [] else [])
    ++ map (sender_text d) (filter (takes_part xs) (actors_of d.processes))

-- columns with these names were added
pub record HasMore (names : List (List ℕ)) (old new : Columns) : Type 0 where
  pub text : new.text.items ≡ old.text.items ++ behind_each names
  pub count : new.count ≡ old.count + length names

-- the columns have these names
pub record HasColumns (names : List (List ℕ)) (c : Columns) : Type 0 where
  pub text : c.text.items ≡ behind_each names
  pub count : c.count ≡ length names

abbrev pub last_clock : Option ℕ → List TurnEnd → Option ℕ
last_clock last [] = last
last_clock last (t ∷ ts) = last_clock (Some t.clock) ts

-- a chart in which these turns are drawn
pub record IsDrawn (d : Draft) (ts : List TurnEnd) (c : Chart) : Type 0 where
  pub rows : c.rows.items ≡ rows_text d None ts
  pub clock : c.clock ≡ last_clock None ts
  pub outside : c.environment ≡ list_any has_outside ts
  pub actors : (x : ActorName) → takes_part c.actors.items x ≡ list_any (is_in d x) ts

-- these actors were added to the participants, and the environment if `outside` is true
pub record TakesPart (P : ActorName → Bool) (outside : Bool) (old new : Chart) : Type 0 where
  pub actors :
      (x : ActorName) → takes_part new.actors.items x ≡ (takes_part old.actors.items x || P x)
  pub environment : new.environment ≡ (old.environment || outside)
  pub rows : new.rows ≡ old.rows
  pub clock : new.clock ≡ old.clock
  pub cut : new.cut ≡ old.cut

-- a chart of all turns that ended so far
abbrev pub Charts : Draft → List TurnEnd → Chart → Type 0
Charts d ts c = IsDrawn d (filter (is_drawn c.cut) ts) c
