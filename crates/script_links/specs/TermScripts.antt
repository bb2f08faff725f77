-- The script that a text means: a terminal's if its first line says so, else a book's.
use Rattle.std.specs.Prelude.{ℕ, ◌≡◌, Bool, nat_lt, if◌then◌else◌, List, [], ◌∷◌, length, map}
use Rattle.std.specs.Prelude.{Option, None, Some, option_map, is_none, find, Result, Ok, Err}
use Rattle.std.specs.List.{filter_map, list_any}
use Rattle.plain_text.specs.Reading.{LONGEST}
use Rattle.script_lines.specs.Lines.{PlainLine, lines_of, line_at}
use Rattle.script_lines.specs.Scripts.{PlainScript, plain_script, script_of, AreInRange}
use Rattle.script_lines.specs.declared.script.ScriptFault.{ScriptFault}
use Rattle.script_lines.specs.declared.script.ScriptFault.TheVariants.{BadLine, NoMemory}
use Rattle.script_links.specs.Heads.{term_head_of}
use Rattle.script_links.specs.TermCommands.{PlainTermCommand, plain_term_command, term_command_of}
use Rattle.script_links.specs.TermCommands.{is_told as asks_told_by}
use Rattle.script_links.specs.declared.heads.TermHead.{TermHead}
use Rattle.script_links.specs.declared.script.TermSaid.{TermSaid}
use Rattle.script_links.specs.declared.script.TermScript.{TermScript}
use Rattle.script_links.specs.declared.script.AnyScript.{AnyScript}
use Rattle.script_links.specs.declared.script.AnyScript.TheVariants as code

-- A command and the number of its line.
pub record PlainTermSaid : Type 0 where
  pub line : ℕ
  pub command : PlainTermCommand

abbrev pub plain_term_said : TermSaid → PlainTermSaid
plain_term_said s = record { line = s.line; command = plain_term_command s.command }

abbrev pub is_bad_term : PlainLine → Bool
is_bad_term line = is_none (term_command_of line.words)

abbrev pub term_said_of : PlainLine → Option PlainTermSaid
term_said_of line =
    option_map (λ command. record { line = line.number; command = command })
    (term_command_of line.words)

-- Whether a command reads a report of the terminal.
abbrev pub is_told : PlainTermSaid → Bool
is_told said = asks_told_by said.command

-- Whether one of the commands reads a report of the terminal.
abbrev pub asks_told : List PlainTermSaid → Bool
asks_told commands = list_any is_told commands

pub record PlainTermScript : Type 0 where
  pub head : TermHead
  pub commands : List PlainTermSaid

abbrev pub plain_term_script : TermScript → PlainTermScript
plain_term_script s = record { head = s.head; commands = map plain_term_said s.commands.items }

pub data PlainAnyScript : Type 0 where
  book : PlainScript → PlainAnyScript
  terminal : PlainTermScript → PlainAnyScript

abbrev pub plain_any_script : AnyScript → PlainAnyScript
plain_any_script (code.Book s) = book (plain_script s)
plain_any_script (code.Terminal s) = terminal (plain_term_script s)

-- The numbers that the first lines of a book script set are in their ranges.
abbrev pub IsInRange : AnyScript → Type 0
IsInRange (code.Book s) = AreInRange s.settings
IsInRange (code.Terminal s) = Unit {0}

-- The commands, or the number of the first line that isn't one.
abbrev pub term_by : TermHead → List PlainLine → Option PlainLine → Result PlainAnyScript ℕ
term_by head lines None =
    Ok (terminal (record { head = head; commands = filter_map term_said_of lines }))
term_by head lines (Some line) = Err line.number

abbrev pub as_book : Result PlainScript ℕ → Result PlainAnyScript ℕ
as_book (Ok s) = Ok (book s)
as_book (Err line) = Err line

abbrev pub any_by :
    List PlainLine → Result PlainScript ℕ → Option TermHead → Result PlainAnyScript ℕ
any_by more as_other None = as_book as_other
any_by more as_other (Some head) = term_by head more (find is_bad_term more)

abbrev pub any_in : List PlainLine → Result PlainScript ℕ → Result PlainAnyScript ℕ
any_in [] as_other = as_book as_other
any_in (line ∷ more) as_other = any_by more as_other (term_head_of line.words)

-- The script that a text means, or the number of its first bad line; for a text that is too long
-- the line of the first byte beyond the limit.
unfoldable pub any_script_of : List ℕ → Result PlainAnyScript ℕ
any_script_of text =
    if nat_lt LONGEST (length text) then Err (line_at text LONGEST)
    else any_in (lines_of text) (script_of text)

-- What a refusal states about a text; `NoMemory` states nothing.
abbrev pub Tells : Result PlainAnyScript ℕ → ScriptFault → Type 0
Tells reading (BadLine line) = reading ≡ Err line
Tells reading NoMemory = Unit {0}

-- The first line that isn't a command has this number.
abbrev pub IsBadTermLine : List PlainLine → ScriptFault → Type 0
IsBadTermLine lines (BadLine number) =
    option_map (λ (line : PlainLine). line.number) (find is_bad_term lines) ≡ Some number
IsBadTermLine lines NoMemory = Unit {0}
