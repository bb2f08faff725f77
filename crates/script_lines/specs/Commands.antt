-- The command that a line of a book script means.
use Rattle.std.specs.Prelude.{ℕ, if◌then◌else◌, List, [], ◌∷◌, ◌++◌, Option, None, Some, option_map}
use Rattle.std.specs.Prelude.{option_and_then, is_some, codes}
use Rattle.std.specs.List.{list_all, filter_map, flat_map}
use Rattle.std.specs.Str.{bytes_eq}
use Rattle.turn_code.specs.declared.value.Value.{Value}
use Rattle.script_lines.specs.Numbers.{count_of, value_of}
use Rattle.script_lines.specs.declared.commands.Offer.{Offer}
use Rattle.script_lines.specs.declared.commands.Command.{Command}
use Rattle.script_lines.specs.declared.commands.Command.TheVariants as code
use Rattle.script_lines.specs.declared.verbs.Call.{Call}
use Rattle.script_lines.specs.declared.verbs.Call.TheVariants.{Begin, Finish, Skip, State}
use Rattle.script_lines.specs.declared.verbs.Verb.{Verb}
use Rattle.script_lines.specs.declared.verbs.Verb.TheVariants as verbs

-- ---- commands, without references

pub record PlainOffer : Type 0 where
  pub process : List ℕ
  pub signal : List ℕ
  pub values : List Value

pub data PlainCommand : Type 0 where
  offer : PlainOffer → PlainCommand
  flood : ℕ → PlainOffer → PlainCommand
  call : Call → List ℕ → PlainCommand
  tick : ℕ → PlainCommand
  env : PlainCommand
  rest : PlainCommand
  value : List ℕ → List ℕ → PlainCommand
  expect : List ℕ → PlainCommand

abbrev pub plain_offer : Offer → PlainOffer
plain_offer o = record { process = o.process.now; signal = o.signal.now; values = o.values.items }

abbrev pub plain_command : Command → PlainCommand
plain_command (code.Offer o) = offer (plain_offer o)
plain_command (code.Flood n o) = flood n (plain_offer o)
plain_command (code.Call c process) = call c process.now
plain_command (code.Tick n) = tick n
plain_command code.Env = env
plain_command code.Rest = rest
plain_command (code.Value process variable) = value process.now variable.now
plain_command (code.Expect text) = expect text.items

-- ---- the word that begins a command; the case of letters matters

abbrev pub verb_text : Verb → List ℕ
verb_text verbs.Offer = codes "offer"
verb_text (verbs.Call Begin) = codes "begin"
verb_text (verbs.Call Finish) = codes "finish"
verb_text (verbs.Call Skip) = codes "skip"
verb_text (verbs.Call State) = codes "state"
verb_text verbs.Tick = codes "tick"
verb_text verbs.Env = codes "env"
verb_text verbs.Rest = codes "rest"
verb_text verbs.Flood = codes "flood"
verb_text verbs.Value = codes "value"
verb_text verbs.Expect = codes "expect"

-- the first of these verbs that has the text
abbrev pub verb_among : List ℕ → List Verb → Option Verb
verb_among word [] = None
verb_among word (verb ∷ more) =
    if bytes_eq word (verb_text verb) then Some verb else verb_among word more

unfoldable pub verb_of : List ℕ → Option Verb
verb_of word = verb_among word
    (verbs.Offer ∷ verbs.Call Begin ∷ verbs.Call Finish ∷ verbs.Call Skip ∷ verbs.Call State
    ∷ verbs.Tick ∷ verbs.Env ∷ verbs.Rest ∷ verbs.Flood ∷ verbs.Value ∷ verbs.Expect ∷ [])

-- ---- the words after it

-- The word, if it is the only one.
abbrev pub only_of : List (List ℕ) → Option (List ℕ)
only_of (word ∷ []) = Some word
only_of _ = None

-- The values that the words spell, if each spells one.
abbrev pub values_of : List (List ℕ) → Option (List Value)
values_of words =
    if list_all (λ word. is_some (value_of word)) words then Some (filter_map value_of words)
    else None

-- An offer: a process, a signal, and values.
abbrev pub offer_of : List (List ℕ) → Option PlainOffer
offer_of (process ∷ signal ∷ words) =
    option_map (λ values. record { process = process; signal = signal; values = values })
    (values_of words)
offer_of _ = None

-- A flood: a count, then an offer.
abbrev pub flood_by : Option ℕ → Option PlainOffer → Option PlainCommand
flood_by (Some n) (Some o) = Some (flood n o)
flood_by _ _ = None

abbrev pub flood_of : List (List ℕ) → Option PlainCommand
flood_of (number ∷ words) = flood_by (count_of number) (offer_of words)
flood_of [] = None

-- a process and a variable
abbrev pub value_command_of : List (List ℕ) → Option PlainCommand
value_command_of (process ∷ variable ∷ []) = Some (value process variable)
value_command_of _ = None

-- At least one word; the text joins the words by single spaces.
abbrev pub expect_of : List (List ℕ) → Option PlainCommand
expect_of (word ∷ words) = Some (expect (word ++ flat_map (λ w. 32 ∷ w) words))
expect_of [] = None

-- A command without further words.
abbrev pub alone : PlainCommand → List (List ℕ) → Option PlainCommand
alone command [] = Some command
alone command (word ∷ words) = None

abbrev pub by_verb : Verb → List (List ℕ) → Option PlainCommand
by_verb verbs.Offer words = option_map offer (offer_of words)
by_verb verbs.Flood words = flood_of words
by_verb (verbs.Call c) words = option_map (call c) (only_of words)
by_verb verbs.Tick words = option_map tick (option_and_then count_of (only_of words))
by_verb verbs.Env words = alone env words
by_verb verbs.Rest words = alone rest words
by_verb verbs.Value words = value_command_of words
by_verb verbs.Expect words = expect_of words

-- The command that the words of a line mean, if they mean one.
abbrev pub command_of : List (List ℕ) → Option PlainCommand
command_of [] = None
command_of (word ∷ words) = option_and_then (λ verb. by_verb verb words) (verb_of word)
