-- The command that a line of a link set's script means.
use Rattle.std.specs.Prelude.{ℕ, Bool, true, false, nat_le, ◌&&◌, if◌then◌else◌, List, [], ◌∷◌}
use Rattle.std.specs.Prelude.{length, Option}
use Rattle.std.specs.Prelude.{None, Some, option_map, option_and_then, codes}
use Rattle.std.specs.Str.{bytes_eq}
use Rattle.group_changeover.specs.Bound.{is_bound_by}
use Rattle.group_changeover.specs.declared.bound.Points.{Points}
use Rattle.script_lines.specs.Numbers.{count_of}
use Rattle.script_links.specs.Octets.{octets_of}
use Rattle.script_links.specs.TermCommands.{PlainTermCommand, term_command_of}
use Rattle.script_links.specs.TermCommands as terminal
use Rattle.script_links.specs.declared.orders.Order.{Order}
use Rattle.script_links.specs.declared.words.GroupWord.{GroupWord}
use Rattle.script_links.specs.declared.words.GroupWord.TheVariants as words
use Rattle.script_links.specs.declared.words.GroupVerb.{GroupVerb}
use Rattle.script_links.specs.declared.words.GroupVerb.TheVariants as verbs
use Rattle.script_links.specs.declared.group_commands.GroupCommand.{GroupCommand}
use Rattle.script_links.specs.declared.group_commands.GroupCommand.TheVariants as code

-- ---- commands, without references

pub data PlainGroupCommand : Type 0 where
  order : Order → PlainGroupCommand
  unit : List ℕ → PlainGroupCommand
  line : List ℕ → PlainGroupCommand
  out : ℕ → PlainGroupCommand
  ticks : ℕ → PlainGroupCommand
  state : List ℕ → PlainGroupCommand
  shown : List ℕ → List ℕ → PlainGroupCommand
  expected : List ℕ → PlainGroupCommand
  on : ℕ → PlainGroupCommand
  sending : List ℕ → PlainGroupCommand
  bound : List ℕ → PlainGroupCommand
  message : List ℕ → PlainGroupCommand
  admitting : Bool → PlainGroupCommand
  own : GroupWord → PlainGroupCommand

abbrev pub plain_group_command : GroupCommand → PlainGroupCommand
plain_group_command (code.Order o) = order o
plain_group_command (code.Unit octets) = unit octets.items
plain_group_command (code.Line octets) = line octets.items
plain_group_command (code.Out n) = out n
plain_group_command (code.Tick n) = ticks n
plain_group_command (code.State process) = state process.now
plain_group_command (code.Value process variable) = shown process.now variable.now
plain_group_command (code.Expect text) = expected text.items
plain_group_command (code.On l) = on l
plain_group_command (code.Send octets) = sending octets.items
plain_group_command (code.Bound octets) = bound octets.items
plain_group_command (code.Message octets) = message octets.items
plain_group_command (code.Admit way) = admitting way
plain_group_command (code.Own word) = own word

-- ---- commands that only a link set has

-- A service information octet, then a field that begins with a label of four octets; the field has
-- at most 272 octets.
abbrev pub is_labelled : List ℕ → Bool
is_labelled octets = nat_le 5 (length octets) && nat_le (length octets) 273

abbrev pub as_sending : List ℕ → Option PlainGroupCommand
as_sending octets = if is_labelled octets then Some (sending octets) else None

abbrev pub sending_by : Option (List ℕ) → Option PlainGroupCommand
sending_by octets = option_and_then as_sending octets

-- The point codes of the set in a script.
abbrev pub points : Points
points = record { own = 1; peer = 2 }

-- The octets are a message bound to a link.
abbrev pub is_bound_message : List ℕ → Bool
is_bound_message [] = false
is_bound_message (sio ∷ sif) = is_bound_by points sio sif

abbrev pub as_bound : List ℕ → Option PlainGroupCommand
as_bound octets = if is_bound_message octets then Some (bound octets) else None

abbrev pub binding_by : Option (List ℕ) → Option PlainGroupCommand
binding_by octets = option_and_then as_bound octets

abbrev pub way_of : List ℕ → Option Bool
way_of word =
    if bytes_eq word (codes "yes") then Some true
    else (if bytes_eq word (codes "no") then Some false else None)

-- ---- commands that a terminal has too

abbrev pub shared_of : PlainTermCommand → Option PlainGroupCommand
shared_of (terminal.order o) = Some (order o)
shared_of (terminal.unit octets) = Some (unit octets)
shared_of (terminal.units n octets) = None
shared_of (terminal.errors n) = None
shared_of (terminal.line octets) = Some (line octets)
shared_of (terminal.msu octets) = None
shared_of (terminal.out n) = Some (out n)
shared_of (terminal.ticks n) = Some (ticks n)
shared_of terminal.told = None
shared_of terminal.accepted = None
shared_of (terminal.retrieving behind) = None
shared_of (terminal.measuring measure) = None
shared_of terminal.counting_aborted = None
shared_of terminal.resetting = None
shared_of (terminal.state process) = Some (state process)
shared_of (terminal.shown process variable) = Some (shown process variable)
shared_of (terminal.expected text) = Some (expected text)

-- ---- the command that the words of a line mean

abbrev pub group_word_text : GroupWord → List ℕ
group_word_text words.Fail = codes "fail"
group_word_text words.Retrieve = codes "retrieve"
group_word_text words.Abandon = codes "abandon"
group_word_text words.Divert = codes "divert"
group_word_text words.Rebalance = codes "rebalance"
group_word_text words.Table = codes "table"
group_word_text words.Held = codes "held"
group_word_text words.Unsure = codes "unsure"
group_word_text words.Link = codes "link"

-- The first of these words that has the text.
abbrev pub group_word_among : List ℕ → List GroupWord → Option GroupWord
group_word_among word [] = None
group_word_among word (x ∷ more) =
    if bytes_eq word (group_word_text x) then Some x else group_word_among word more

unfoldable pub group_word_of : List ℕ → Option GroupWord
group_word_of word =
    group_word_among word
    (words.Fail ∷ words.Retrieve ∷ words.Abandon ∷ words.Divert ∷ words.Rebalance ∷ words.Table
    ∷ words.Held ∷ words.Unsure ∷ words.Link ∷ [])

abbrev pub group_verb_text : GroupVerb → List ℕ
group_verb_text verbs.On = codes "on"
group_verb_text verbs.Send = codes "send"
group_verb_text verbs.Bound = codes "bound"
group_verb_text verbs.Message = codes "message"
group_verb_text verbs.Admit = codes "admit"

abbrev pub group_verb_among : List ℕ → List GroupVerb → Option GroupVerb
group_verb_among word [] = None
group_verb_among word (verb ∷ more) =
    if bytes_eq word (group_verb_text verb) then Some verb else group_verb_among word more

unfoldable pub group_verb_of : List ℕ → Option GroupVerb
group_verb_of word =
    group_verb_among word
    (verbs.On ∷ verbs.Send ∷ verbs.Bound ∷ verbs.Message ∷ verbs.Admit ∷ [])

-- The command that a verb and the word after it mean.
abbrev pub by_group_verb : GroupVerb → List ℕ → Option PlainGroupCommand
by_group_verb verbs.On word = option_map on (count_of word)
by_group_verb verbs.Send word = sending_by (octets_of word)
by_group_verb verbs.Bound word = binding_by (octets_of word)
by_group_verb verbs.Message word = option_map message (octets_of word)
by_group_verb verbs.Admit word = option_map admitting (way_of word)

abbrev pub by_group_first :
    Option GroupVerb → List ℕ → Option PlainGroupCommand → Option PlainGroupCommand
by_group_first (Some verb) word as_shared = by_group_verb verb word
by_group_first None word as_shared = as_shared

abbrev pub group_command_of : List (List ℕ) → Option PlainGroupCommand
group_command_of (word ∷ []) = option_map own (group_word_of word)
group_command_of (first ∷ word ∷ []) =
    by_group_first (group_verb_of first) word
    (option_and_then shared_of (term_command_of (first ∷ word ∷ [])))
group_command_of words = option_and_then shared_of (term_command_of words)
