-- The script that a text means: its first lines set numbers, the others are commands.
use Rattle.std.specs.Prelude.{ℕ, ◌≡◌, ◌≤◌, Bool, nat_lt, ◌&&◌, if◌then◌else◌, List, [], ◌∷◌, length}
use Rattle.std.specs.Prelude.{map, Option, None, Some, option_map, option_and_then, is_none, find}
use Rattle.std.specs.Prelude.{Result, Ok, Err, codes}
use Rattle.std.specs.Int.{is_in_range}
use Rattle.std.specs.List.{filter_map}
use Rattle.std.specs.Str.{bytes_eq}
use Rattle.plain_laws.specs.Limits.{LEAST_ENVIRONMENT, LEAST_JOURNAL, LEAST_PORT}
use Rattle.plain_laws.specs.Limits.{MOST_ENVIRONMENT, MOST_JOURNAL, MOST_PORT, USUAL_ENVIRONMENT}
use Rattle.plain_laws.specs.Limits.{USUAL_JOURNAL, USUAL_PORT}
use Rattle.plain_text.specs.Reading.{LONGEST}
use Rattle.script_lines.specs.Numbers.{count_of}
use Rattle.script_lines.specs.Lines.{PlainLine, lines_of, line_at}
use Rattle.script_lines.specs.Commands.{PlainCommand, plain_command, command_of}
use Rattle.script_lines.specs.declared.settings.Setting.{Setting}
use Rattle.script_lines.specs.declared.settings.Setting.TheVariants.{Ports, Env, Journal}
use Rattle.script_lines.specs.declared.settings.Settings.{Settings}
use Rattle.script_lines.specs.declared.script.Said.{Said}
use Rattle.script_lines.specs.declared.script.Script.{Script}
use Rattle.script_lines.specs.declared.script.ScriptFault.{ScriptFault}
use Rattle.script_lines.specs.declared.script.ScriptFault.TheVariants.{BadLine, NoMemory}

-- ---- first lines

abbrev pub setting_at : List ℕ → ℕ → Option Setting
setting_at word n =
    if bytes_eq word (codes "ports") && is_in_range LEAST_PORT MOST_PORT n then Some (Ports n)
    else (if bytes_eq word (codes "env") && is_in_range LEAST_ENVIRONMENT MOST_ENVIRONMENT n
    then Some (Env n)
    else (if bytes_eq word (codes "journal") && is_in_range LEAST_JOURNAL MOST_JOURNAL n
    then Some (Journal n) else None))

-- The setting of a line that sets a number.
abbrev pub setting_of : List (List ℕ) → Option Setting
setting_of (word ∷ number ∷ []) = option_and_then (setting_at word) (count_of number)
setting_of _ = None

abbrev pub set : Setting → Settings → Settings
set (Ports n) s = record s { ports = n }
set (Env n) s = record s { env = n }
set (Journal n) s = record s { journal = n }

-- The settings if no line sets them.
abbrev pub defaults : Settings
defaults = record { ports = USUAL_PORT; env = USUAL_ENVIRONMENT; journal = USUAL_JOURNAL }

-- Each number is in its range.
pub record AreInRange (s : Settings) : Type 0 where
  pub least_ports : LEAST_PORT ≤ s.ports
  pub most_ports : s.ports ≤ MOST_PORT
  pub least_env : LEAST_ENVIRONMENT ≤ s.env
  pub most_env : s.env ≤ MOST_ENVIRONMENT
  pub least_journal : LEAST_JOURNAL ≤ s.journal
  pub most_journal : s.journal ≤ MOST_JOURNAL

-- The head from one line on: if the line sets a number the head goes on after it, else the head
-- ends before it.
abbrev pub head_by :
    Settings → List PlainLine → (Settings → Settings × List PlainLine) → Option Setting
    → Settings × List PlainLine
head_by s lines go None = (s, lines)
head_by s lines go (Some setting) = go (set setting s)

-- The settings of the first lines, of each kind the last one, and the lines from the first one that
-- sets nothing.
abbrev pub after_head : Settings → List PlainLine → Settings × List PlainLine
after_head s [] = (s, [])
after_head s (line ∷ more) =
    head_by s (line ∷ more) (λ t. after_head t more) (setting_of line.words)

-- ---- commands

-- A command and the number of its line.
pub record PlainSaid : Type 0 where
  pub line : ℕ
  pub command : PlainCommand

abbrev pub plain_said : Said → PlainSaid
plain_said s = record { line = s.line; command = plain_command s.command }

abbrev pub is_bad : PlainLine → Bool
is_bad line = is_none (command_of line.words)

abbrev pub said_of : PlainLine → Option PlainSaid
said_of line =
    option_map (λ command. record { line = line.number; command = command }) (command_of line.words)

-- ---- scripts

pub record PlainScript : Type 0 where
  pub settings : Settings
  pub commands : List PlainSaid

abbrev pub plain_script : Script → PlainScript
plain_script s = record { settings = s.settings; commands = map plain_said s.commands.items }

-- The commands, or the number of the first line that isn't one.
abbrev pub commands_by : Settings → List PlainLine → Option PlainLine → Result PlainScript ℕ
commands_by s lines None = Ok (record { settings = s; commands = filter_map said_of lines })
commands_by s lines (Some line) = Err line.number

abbrev pub script_by : Settings × List PlainLine → Result PlainScript ℕ
script_by head = commands_by head.0 head.1 (find is_bad head.1)

-- The script that a text means, or the number of its first bad line; for a text that is too long
-- the line of the first byte beyond the limit.
unfoldable pub script_of : List ℕ → Result PlainScript ℕ
script_of text =
    if nat_lt LONGEST (length text) then Err (line_at text LONGEST)
    else script_by (after_head defaults (lines_of text))

-- What a refusal states about a text; `NoMemory` states nothing.
abbrev pub IsFaultOf : List ℕ → ScriptFault → Type 0
IsFaultOf text (BadLine line) = script_of text ≡ Err line
IsFaultOf text NoMemory = Unit {0}

-- The first line that isn't a command has this number.
abbrev pub IsBadLine : List PlainLine → ScriptFault → Type 0
IsBadLine lines (BadLine number) =
    option_map (λ (line : PlainLine). line.number) (find is_bad lines) ≡ Some number
IsBadLine lines NoMemory = Unit {0}
