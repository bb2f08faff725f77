-- The reading of a script of `soak`: the number of links, followed by steps.
use Rattle.std.specs.Prelude.{ℕ, ◌≡◌, nat_lt, ◌&&◌, if◌then◌else◌, List, [], ◌∷◌, ◌++◌, length, map}
use Rattle.std.specs.Prelude.{Option, None, Some, option_and_then, Result, Ok, Err, codes}
use Rattle.std.specs.Int.{is_in_range}
use Rattle.std.specs.Str.{bytes_eq}
use Rattle.plain_laws.specs.Limits.{MOST_LINKS}
use Rattle.plain_text.specs.Reading.{LONGEST}
use Rattle.script_lines.specs.Numbers.{count_of}
use Rattle.script_lines.specs.Lines.{PlainLine, lines_of, line_at}
use Rattle.script_lines.specs.Commands.{PlainOffer, PlainCommand, plain_offer, command_of}
use Rattle.script_lines.specs.Commands as commands
use Rattle.script_lines.specs.declared.script.ScriptFault.{ScriptFault}
use Rattle.script_lines.specs.declared.script.ScriptFault.TheVariants.{BadLine, NoMemory}
use Rattle.pool_soak.specs.declared.script.Soak.{Soak}
use Rattle.pool_soak.specs.declared.script.Step.{Step}
use Rattle.pool_soak.specs.declared.script.Step.TheVariants as step

-- ---- steps without references

pub data PlainStep : Type 0 where
  on : ℕ → PlainStep
  offer : PlainOffer → PlainStep
  tick : ℕ → PlainStep

pub record PlainSoak : Type 0 where
  pub links : Option ℕ
  pub steps : List PlainStep

abbrev pub plain_step : Step → PlainStep
plain_step (step.On n) = on n
plain_step (step.Offer o) = offer (plain_offer o)
plain_step (step.Tick n) = tick n

abbrev pub plain_soak : Soak → PlainSoak
plain_soak s = record { links = s.links; steps = map plain_step s.steps.items }

abbrev pub empty : PlainSoak
empty = record { links = None; steps = [] }

-- ---- lines

-- `links N`, for as many links as a pool may serve
abbrev pub links_at : List ℕ → ℕ → Option ℕ
links_at word n =
    if bytes_eq word (codes "links") && is_in_range 1 MOST_LINKS n then Some n else None

abbrev pub links_of : List (List ℕ) → Option ℕ
links_of (word ∷ number ∷ []) = option_and_then (links_at word) (count_of number)
links_of _ = None

-- `on L`
abbrev pub on_at : List ℕ → ℕ → Option PlainStep
on_at word n = if bytes_eq word (codes "on") then Some (on n) else None

abbrev pub on_of : List (List ℕ) → Option PlainStep
on_of (word ∷ number ∷ []) = option_and_then (on_at word) (count_of number)
on_of _ = None

-- `offer P SIG v..` and `tick N`, as in a book script
abbrev pub step_by : PlainCommand → Option PlainStep
step_by (commands.offer o) = Some (offer o)
step_by (commands.flood n o) = None
step_by (commands.call c process) = None
step_by (commands.tick n) = Some (tick n)
step_by commands.env = None
step_by commands.rest = None
step_by (commands.value process variable) = None
step_by (commands.expect text) = None

abbrev pub step_else : List (List ℕ) → Option PlainStep → Option PlainStep
step_else words (Some s) = Some s
step_else words None = option_and_then step_by (command_of words)

abbrev pub step_of : List (List ℕ) → Option PlainStep
step_of words = step_else words (on_of words)

-- ---- the effect of a line: the number of links comes before all steps, every step after it

abbrev pub with_step : PlainSoak → Option PlainStep → Option PlainSoak
with_step s None = None
with_step s (Some t) = Some (record { links = s.links; steps = s.steps ++ t ∷ [] })

abbrev pub with_links : ℕ → List PlainStep → Option PlainSoak
with_links n [] = Some (record { links = Some n; steps = [] })
with_links n (t ∷ ts) = None

abbrev pub when_known : PlainSoak → List (List ℕ) → Option ℕ → Option PlainSoak
when_known s words None = None
when_known s words (Some n) = with_step s (step_of words)

abbrev pub added_by : PlainSoak → List (List ℕ) → Option ℕ → Option PlainSoak
added_by s words (Some n) = with_links n s.steps
added_by s words None = when_known s words s.links

unfoldable pub added : PlainSoak → List (List ℕ) → Option PlainSoak
added s words = added_by s words (links_of words)

-- ---- scripts

abbrev pub read_by : ℕ → (PlainSoak → Result PlainSoak ℕ) → Option PlainSoak → Result PlainSoak ℕ
read_by n go None = Err n
read_by n go (Some t) = go t

-- the script after these lines, or the number of the first bad line
abbrev pub read : PlainSoak → List PlainLine → Result PlainSoak ℕ
read s [] = Ok s
read s (line ∷ more) = read_by line.number (λ t. read t more) (added s line.words)

abbrev pub known_by : PlainSoak → Option ℕ → Result PlainSoak ℕ
known_by s (Some n) = Ok s
known_by s None = Err 1

-- the fault of a script without significant lines is in line 1
abbrev pub known : Result PlainSoak ℕ → Result PlainSoak ℕ
known (Ok s) = known_by s s.links
known (Err n) = Err n

-- the script that a text reads as, or the number of its first bad line; for a text that is too
-- long, the line of the first byte too many
unfoldable pub soak_of : List ℕ → Result PlainSoak ℕ
soak_of text =
    if nat_lt LONGEST (length text) then Err (line_at text LONGEST)
    else known (read empty (lines_of text))

-- the text has this fault; running out of memory states nothing about the text
abbrev pub IsFaultOf : List ℕ → ScriptFault → Type 0
IsFaultOf text (BadLine n) = soak_of text ≡ Err n
IsFaultOf text NoMemory = Unit {0}

-- the first line that can't be added has this number
abbrev pub IsBadAt : PlainSoak → List PlainLine → ScriptFault → Type 0
IsBadAt s lines (BadLine n) = read s lines ≡ Err n
IsBadAt s lines NoMemory = Unit {0}
