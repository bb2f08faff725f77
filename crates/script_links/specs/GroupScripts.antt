-- The script that a text means: a link set's if its first line says so, else one of another kind.
use Rattle.std.specs.Prelude.{ℕ, ◌≡◌, ◌≤◌, Bool, nat_lt, if◌then◌else◌, List, [], ◌∷◌, length, map}
use Rattle.std.specs.Prelude.{Option, None, Some, option_map, is_none, find, Result, Ok, Err}
use Rattle.std.specs.List.{filter_map}
use Rattle.plain_text.specs.Reading.{LONGEST}
use Rattle.script_lines.specs.Lines.{PlainLine, lines_of, line_at}
use Rattle.script_lines.specs.declared.script.ScriptFault.{ScriptFault}
use Rattle.script_lines.specs.declared.script.ScriptFault.TheVariants.{BadLine, NoMemory}
use Rattle.script_links.specs.TermScripts.{PlainAnyScript, plain_any_script, any_script_of}
use Rattle.script_links.specs.TermScripts.{IsInRange}
use Rattle.script_links.specs.Heads.{MOST_LINKS, head_of}
use Rattle.script_links.specs.GroupCommands.{PlainGroupCommand, plain_group_command}
use Rattle.script_links.specs.GroupCommands.{group_command_of}
use Rattle.script_links.specs.declared.heads.GroupHead.{GroupHead}
use Rattle.script_links.specs.declared.group_script.GroupSaid.{GroupSaid}
use Rattle.script_links.specs.declared.group_script.GroupScript.{GroupScript}
use Rattle.script_links.specs.declared.group_script.PlayScript.{PlayScript}
use Rattle.script_links.specs.declared.group_script.PlayScript.TheVariants as code

-- A command and the number of its line.
pub record PlainGroupSaid : Type 0 where
  pub line : ℕ
  pub command : PlainGroupCommand

abbrev pub plain_group_said : GroupSaid → PlainGroupSaid
plain_group_said s = record { line = s.line; command = plain_group_command s.command }

abbrev pub is_bad_group : PlainLine → Bool
is_bad_group line = is_none (group_command_of line.words)

abbrev pub group_said_of : PlainLine → Option PlainGroupSaid
group_said_of line =
    option_map (λ command. record { line = line.number; command = command })
    (group_command_of line.words)

pub record PlainGroupScript : Type 0 where
  pub head : GroupHead
  pub commands : List PlainGroupSaid

abbrev pub plain_group_script : GroupScript → PlainGroupScript
plain_group_script s = record { head = s.head; commands = map plain_group_said s.commands.items }

pub data PlainPlayScript : Type 0 where
  other : PlainAnyScript → PlainPlayScript
  group : PlainGroupScript → PlainPlayScript

abbrev pub plain_play_script : PlayScript → PlainPlayScript
plain_play_script (code.Other s) = other (plain_any_script s)
plain_play_script (code.Group s) = group (plain_group_script s)

pub record IsFew (links : ℕ) : Type 0 where
  pub some : 1 ≤ links
  pub few : links ≤ MOST_LINKS

-- The numbers in the first lines are in their ranges.
abbrev pub IsFit : PlayScript → Type 0
IsFit (code.Other s) = IsInRange s
IsFit (code.Group s) = IsFew s.head.links

-- The commands, or the number of the first line that isn't one.
abbrev pub group_by : GroupHead → List PlainLine → Option PlainLine → Result PlainPlayScript ℕ
group_by head lines None =
    Ok (group (record { head = head; commands = filter_map group_said_of lines }))
group_by head lines (Some line) = Err line.number

abbrev pub as_other : Result PlainAnyScript ℕ → Result PlainPlayScript ℕ
as_other (Ok s) = Ok (other s)
as_other (Err line) = Err line

abbrev pub play_by :
    List PlainLine → Result PlainAnyScript ℕ → Option GroupHead → Result PlainPlayScript ℕ
play_by more as_any None = as_other as_any
play_by more as_any (Some head) = group_by head more (find is_bad_group more)

abbrev pub play_in : List PlainLine → Result PlainAnyScript ℕ → Result PlainPlayScript ℕ
play_in [] as_any = as_other as_any
play_in (line ∷ more) as_any = play_by more as_any (head_of line.words)

-- The script that a text means, or the number of its first bad line; for a text that is too long
-- the line of the first byte beyond the limit.
unfoldable pub play_script_of : List ℕ → Result PlainPlayScript ℕ
play_script_of text =
    if nat_lt LONGEST (length text) then Err (line_at text LONGEST)
    else play_in (lines_of text) (any_script_of text)

-- What a refusal states about a text; `NoMemory` states nothing.
abbrev pub Tells : Result PlainPlayScript ℕ → ScriptFault → Type 0
Tells reading (BadLine line) = reading ≡ Err line
Tells reading NoMemory = Unit {0}

-- The first line that isn't a command has this number.
abbrev pub IsBadGroupLine : List PlainLine → ScriptFault → Type 0
IsBadGroupLine lines (BadLine number) =
    option_map (λ (line : PlainLine). line.number) (find is_bad_group lines) ≡ Some number
IsBadGroupLine lines NoMemory = Unit {0}
