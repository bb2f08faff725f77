-- The command that a line of a terminal's script means.
use Rattle.std.specs.Prelude.{ℕ, nat_le, Bool, true, false, ◌&&◌, if◌then◌else◌, List, [], ◌∷◌}
use Rattle.std.specs.Prelude.{Option, None, Some, option_map, option_and_then, codes}
use Rattle.std.specs.Str.{bytes_eq}
use Rattle.script_lines.specs.Numbers.{count_of}
use Rattle.script_lines.specs.Commands.{PlainCommand, command_of, call, tick, value, expect, offer}
use Rattle.script_lines.specs.Commands.{flood, env, rest}
use Rattle.script_lines.specs.declared.verbs.Call.{Call}
use Rattle.script_lines.specs.declared.verbs.Call.TheVariants.{Begin, Finish, Skip, State}
use Rattle.resend_store.specs.MeasureNames.{measure_named}
use Rattle.resend_store.specs.declared.measures.Measure.{Measure}
use Rattle.script_links.specs.Orders.{order_of}
use Rattle.script_links.specs.Octets.{octets_of, is_unit, is_message}
use Rattle.script_links.specs.UnitWords.{number_to, unit_of_words}
use Rattle.script_links.specs.declared.orders.Order.{Order}
use Rattle.script_links.specs.declared.verbs.TermVerb.{TermVerb}
use Rattle.script_links.specs.declared.verbs.TermVerb.TheVariants as verbs
use Rattle.script_links.specs.declared.commands.TermCommand.{TermCommand}
use Rattle.script_links.specs.declared.commands.TermCommand.TheVariants as code

-- ---- commands, without references

pub data PlainTermCommand : Type 0 where
  order : Order → PlainTermCommand
  unit : List ℕ → PlainTermCommand
  units : ℕ → List ℕ → PlainTermCommand
  errors : ℕ → PlainTermCommand
  line : List ℕ → PlainTermCommand
  msu : List ℕ → PlainTermCommand
  out : ℕ → PlainTermCommand
  ticks : ℕ → PlainTermCommand
  told : PlainTermCommand
  accepted : PlainTermCommand
  retrieving : Option ℕ → PlainTermCommand
  measuring : Measure → PlainTermCommand
  counting_aborted : PlainTermCommand
  resetting : PlainTermCommand
  state : List ℕ → PlainTermCommand
  shown : List ℕ → List ℕ → PlainTermCommand
  expected : List ℕ → PlainTermCommand

abbrev pub plain_term_command : TermCommand → PlainTermCommand
plain_term_command (code.Order o) = order o
plain_term_command (code.Unit octets) = unit octets.items
plain_term_command (code.Units n octets) = units n octets.items
plain_term_command (code.Errors n) = errors n
plain_term_command (code.Line octets) = line octets.items
plain_term_command (code.Msu octets) = msu octets.items
plain_term_command (code.Out n) = out n
plain_term_command (code.Tick n) = ticks n
plain_term_command code.Told = told
plain_term_command code.Accepted = accepted
plain_term_command (code.Retrieve behind) = retrieving behind
plain_term_command (code.Measure measure) = measuring measure
plain_term_command code.Aborted = counting_aborted
plain_term_command code.Reset = resetting
plain_term_command (code.State process) = state process.now
plain_term_command (code.Value process variable) = shown process.now variable.now
plain_term_command (code.Expect text) = expected text.items

-- Whether a command reads a report of the terminal.
abbrev pub is_told : PlainTermCommand → Bool
is_told (order o) = false
is_told (unit octets) = false
is_told (units n octets) = false
is_told (errors n) = false
is_told (line octets) = false
is_told (msu octets) = false
is_told (out n) = false
is_told (ticks n) = false
is_told told = true
is_told accepted = false
is_told (retrieving behind) = false
is_told (measuring measure) = false
is_told counting_aborted = false
is_told resetting = false
is_told (state process) = false
is_told (shown process variable) = false
is_told (expected text) = false

-- ---- commands that only a terminal has

-- A command from octets that pass a test.
abbrev pub where_so :
    (List ℕ → Bool) → (List ℕ → PlainTermCommand) → List ℕ → Option PlainTermCommand
where_so test make octets = if test octets then Some (make octets) else None

abbrev pub unit_by : Option (List ℕ) → Option PlainTermCommand
unit_by octets = option_and_then (where_so is_unit unit) octets

-- A number of repetitions: 1 to 1,000,000.
abbrev pub as_times : ℕ → Option ℕ
as_times n = if nat_le 1 n && nat_le n 1000000 then Some n else None

abbrev pub times_of : List ℕ → Option ℕ
times_of word = option_and_then as_times (count_of word)

abbrev pub units_by : Option ℕ → Option (List ℕ) → Option PlainTermCommand
units_by None octets = None
units_by (Some n) octets = option_and_then (where_so is_unit (units n)) octets

abbrev pub msu_by : Option (List ℕ) → Option PlainTermCommand
msu_by octets = option_and_then (where_so is_message msu) octets

-- the name of the count of aborted proving periods
abbrev pub ABORTED : List ℕ
ABORTED = codes "aborted_periods"

-- A measurement, or the reset of all counts.
abbrev pub measure_by : List ℕ → Option PlainTermCommand
measure_by word =
    if bytes_eq word (codes "reset") then Some resetting
    else (if bytes_eq word ABORTED then Some counting_aborted
    else option_map measuring (measure_named word))

-- ---- commands that a book has too

abbrev pub shared_call : Call → List ℕ → Option PlainTermCommand
shared_call Begin process = None
shared_call Finish process = None
shared_call Skip process = None
shared_call State process = Some (state process)

abbrev pub shared_of : PlainCommand → Option PlainTermCommand
shared_of (offer o) = None
shared_of (flood n o) = None
shared_of (call c process) = shared_call c process
shared_of (tick n) = Some (ticks n)
shared_of env = None
shared_of rest = None
shared_of (value process variable) = Some (shown process variable)
shared_of (expect text) = Some (expected text)

-- ---- the command that the words of a line mean

abbrev pub term_verb_text : TermVerb → List ℕ
term_verb_text verbs.Order = codes "command"
term_verb_text verbs.Unit = codes "unit"
term_verb_text verbs.Line = codes "line"
term_verb_text verbs.Msu = codes "msu"
term_verb_text verbs.Out = codes "out"
term_verb_text verbs.Errors = codes "errors"
term_verb_text verbs.Retrieve = codes "retrieve"
term_verb_text verbs.Measure = codes "measure"

-- The first of these verbs that has the text.
abbrev pub term_verb_among : List ℕ → List TermVerb → Option TermVerb
term_verb_among word [] = None
term_verb_among word (verb ∷ more) =
    if bytes_eq word (term_verb_text verb) then Some verb else term_verb_among word more

unfoldable pub term_verb_of : List ℕ → Option TermVerb
term_verb_of word =
    term_verb_among word
    (verbs.Order ∷ verbs.Unit ∷ verbs.Line ∷ verbs.Msu ∷ verbs.Out ∷ verbs.Errors ∷ verbs.Retrieve
    ∷ verbs.Measure ∷ [])

-- The command that a verb and the word after it mean.
abbrev pub by_term_verb : TermVerb → List ℕ → Option PlainTermCommand
by_term_verb verbs.Order word = option_map order (order_of word)
by_term_verb verbs.Unit word = unit_by (octets_of word)
by_term_verb verbs.Line word = option_map line (octets_of word)
by_term_verb verbs.Msu word = msu_by (octets_of word)
by_term_verb verbs.Out word = option_map out (count_of word)
by_term_verb verbs.Errors word = option_map errors (times_of word)
by_term_verb verbs.Retrieve word = option_map (λ n. retrieving (Some n)) (number_to 127 word)
by_term_verb verbs.Measure word = measure_by word

abbrev pub by_first : Option TermVerb → List ℕ → Option PlainTermCommand → Option PlainTermCommand
by_first (Some verb) word as_shared = by_term_verb verb word
by_first None word as_shared = as_shared

-- A command of one word.
abbrev pub asked_of : List ℕ → Option PlainTermCommand
asked_of word =
    if bytes_eq word (codes "told") then Some told
    else (if bytes_eq word (codes "accepted") then Some accepted
    else (if bytes_eq word (codes "retrieve") then Some (retrieving None) else None))

-- The octets of a unit: one word of digits, or several words.
abbrev pub unit_octets_of : List (List ℕ) → Option (List ℕ)
unit_octets_of (word ∷ []) = octets_of word
unit_octets_of words = unit_of_words words

-- A number of repetitions, and a unit.
abbrev pub units_of : List (List ℕ) → Option PlainTermCommand
units_of (number ∷ words) = units_by (times_of number) (unit_octets_of words)
units_of [] = None

-- Three or more words.
abbrev pub words_of : List (List ℕ) → Option PlainTermCommand
words_of (first ∷ more) =
    if bytes_eq first (codes "unit") then unit_by (unit_of_words more)
    else (if bytes_eq first (codes "units") then units_of more
    else option_and_then shared_of (command_of (first ∷ more)))
words_of [] = None

abbrev pub term_command_of : List (List ℕ) → Option PlainTermCommand
term_command_of (word ∷ []) = asked_of word
term_command_of (first ∷ word ∷ []) =
    by_first (term_verb_of first) word (option_and_then shared_of (command_of (first ∷ word ∷ [])))
term_command_of words = words_of words
