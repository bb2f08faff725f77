-- The meaning of `play`'s status for the script and for the text written.
use Rattle.std.specs.Prelude.{◌≡◌, ◌++◌, ℕ, Bool, true, false, List, Option, Some, Ok, Err, IsUtf8}
use Rattle.std.specs.Prelude.{codes}
use Rattle.std.specs.Fmt.{decimal}
use Rattle.std.specs.Io.KnownBytes.{Appends}
use Rattle.turn_code.specs.declared.draft.Draft.{Draft}
use Rattle.script_lines.specs.declared.script.ScriptFault.{ScriptFault}
use Rattle.script_lines.specs.declared.script.ScriptFault.TheVariants.{BadLine, NoMemory}
use Rattle.script_book.specs.Played.{first_book, IsWritten, IsMissed}
use Rattle.resend_store.specs.declared.messages.RoundLimits.{RoundLimits}
use Rattle.script_links.specs.TermScripts.{PlainAnyScript, book, terminal}
use Rattle.script_links.specs.GroupScripts.{PlainPlayScript, other, group, play_script_of}
use Rattle.script_check.specs.Checked.{IsGiven, IsFound, PrintsRefusal}
use Rattle.script_check.specs.Printed.{limit_line}
use Rattle.script_check.specs.declared.sets.FoundSet.{FoundSet}
use Rattle.mtp2_text.specs.declared.limits.TextLimits.{TextLimits}
use Rattle.mtp2_text.specs.declared.limits.LimitName.{LimitName}
use Rattle.script_play.specs.Limits.{usual_over, wrong_for}
use Rattle.script_play.specs.Turns.{HasTurns}
use Rattle.plain_text.specs.Lines.{line_of}
use Rattle.script_seen.specs.TermRuns.{IsOfNew, IsTermWritten, IsTermFailed, LacksName}
use Rattle.script_lines.specs.Lines.{PlainLine, lines_of}
use Rattle.script_seen.specs.Kinds.{IsBookShown, IsBookShownMissed, IsTermShown, IsTermShownMissed}
use Rattle.script_seen.specs.Kinds.{IsGroupShown, IsGroupShownMissed}
use Rattle.script_seen.specs.GroupRuns.{IsOfNewSet, IsGroupWritten, IsGroupMissed}

-- all commands of a script were obeyed, and their lines written: on a book of the process set, or
-- on a new terminal that runs it. The usual limits force the terminal's cyclic retransmission,
-- unless the script sets its own.
abbrev pub IsOtherObeyed :
    RoundLimits → Draft → PlainAnyScript → Option (List ℕ) → Option (List ℕ) → Type 0
IsOtherObeyed usual d (book s) old new = IsWritten (first_book d s.settings) s.commands old new
IsOtherObeyed usual d (terminal s) old new =
    IsOfNew d usual s.head (IsTermWritten s.commands old new)

-- `IsOtherObeyed`, or on a link set of such terminals
abbrev pub IsObeyed :
    RoundLimits → Draft → PlainPlayScript → Option (List ℕ) → Option (List ℕ) → Type 0
IsObeyed usual d (other s) old new = IsOtherObeyed usual d s old new
IsObeyed usual d (group s) old new = IsOfNewSet d usual s.head (IsGroupWritten s.commands old new)

-- an expectation of a script failed after commands that were obeyed
abbrev pub IsOtherMissed :
    RoundLimits → Draft → PlainAnyScript → Option (List ℕ) → Option (List ℕ) → Type 0
IsOtherMissed usual d (book s) old new = IsMissed (first_book d s.settings) s.commands old new
IsOtherMissed usual d (terminal s) old new =
    IsOfNew d usual s.head (IsTermFailed s.commands old new)

abbrev pub IsMissedIn :
    RoundLimits → Draft → PlainPlayScript → Option (List ℕ) → Option (List ℕ) → Type 0
IsMissedIn usual d (other s) old new = IsOtherMissed usual d s old new
IsMissedIn usual d (group s) old new = IsOfNewSet d usual s.head (IsGroupMissed s.commands old new)

-- ---- with each command's line before its output

abbrev pub IsOtherShown :
    RoundLimits → List PlainLine → Draft → PlainAnyScript →
    Option (List ℕ) → Option (List ℕ) → Type 0
IsOtherShown usual lines d (book s) old new =
    IsBookShown lines (first_book d s.settings) s.commands old new
IsOtherShown usual lines d (terminal s) old new =
    IsOfNew d usual s.head (IsTermShown lines s.commands old new)

abbrev pub AreShown :
    RoundLimits → List PlainLine → Draft → PlainPlayScript →
    Option (List ℕ) → Option (List ℕ) → Type 0
AreShown usual lines d (other s) old new = IsOtherShown usual lines d s old new
AreShown usual lines d (group s) old new =
    IsOfNewSet d usual s.head (IsGroupShown lines s.commands old new)

abbrev pub IsOtherShownMissed :
    RoundLimits → List PlainLine → Draft → PlainAnyScript →
    Option (List ℕ) → Option (List ℕ) → Type 0
IsOtherShownMissed usual lines d (book s) old new =
    IsBookShownMissed lines (first_book d s.settings) s.commands old new
IsOtherShownMissed usual lines d (terminal s) old new =
    IsOfNew d usual s.head (IsTermShownMissed lines s.commands old new)

abbrev pub AreShownMissed :
    RoundLimits → List PlainLine → Draft → PlainPlayScript →
    Option (List ℕ) → Option (List ℕ) → Type 0
AreShownMissed usual lines d (other s) old new = IsOtherShownMissed usual lines d s old new
AreShownMissed usual lines d (group s) old new =
    IsOfNewSet d usual s.head (IsGroupShownMissed lines s.commands old new)

-- ---- with or without echo

-- a script was obeyed on a set; with `true` the lines of its text are echoed
abbrev pub IsObeyedAs :
    RoundLimits → Bool → List PlainLine → Draft → PlainPlayScript → Option (List ℕ)
    → Option (List ℕ) → Type 0
IsObeyedAs usual false lines d s old new = IsObeyed usual d s old new
IsObeyedAs usual true lines d s old new = AreShown usual lines d s old new

abbrev pub IsMissedAs :
    RoundLimits → Bool → List PlainLine → Draft → PlainPlayScript → Option (List ℕ)
    → Option (List ℕ) → Type 0
IsMissedAs usual false lines d s old new = IsMissedIn usual d s old new
IsMissedAs usual true lines d s old new = AreShownMissed usual lines d s old new

-- the bytes are a script, all of whose commands were obeyed
pub record IsPlayed (limits : TextLimits) (echo : Bool) (old new : Option (List ℕ)) (d : Draft)
    (bytes : List ℕ) : Type 0 where
  pub utf8 : IsUtf8 bytes
  pub script : PlainPlayScript
  pub reads : play_script_of bytes ≡ Ok script
  pub usual : RoundLimits
  pub is_usual : usual_over limits script ≡ Some usual
  pub run : IsObeyedAs usual echo (lines_of bytes) d script old new

-- the bytes are a script, and one of its expectations failed
pub record IsPlayedInPart (limits : TextLimits) (echo : Bool) (old new : Option (List ℕ))
    (d : Draft) (bytes : List ℕ) : Type 0 where
  pub utf8 : IsUtf8 bytes
  pub script : PlainPlayScript
  pub reads : play_script_of bytes ≡ Ok script
  pub usual : RoundLimits
  pub is_usual : usual_over limits script ≡ Some usual
  pub missed : IsMissedAs usual echo (lines_of bytes) d script old new

-- ---- refusals

-- the bytes are no script, and only the line about that was written
pub data IsNoScript (old new : Option (List ℕ)) (bytes : List ℕ) : Type 0 where
  no_text : (IsUtf8 bytes → ⊥) → Appends old new (line_of (codes "refused F1 NotText"))
      → IsNoScript old new bytes
  bad_line : (line : ℕ) → IsUtf8 bytes → play_script_of bytes ≡ Err line
      → Appends old new (line_of (codes "refused X1 BadLine line " ++ decimal line))
      → IsNoScript old new bytes

-- a process set that lacks a name has no terminal; only books' scripts run on it
abbrev pub HasNoOther : Draft → PlainAnyScript → Option (List ℕ) → Option (List ℕ) → Type 0
HasNoOther d (book s) old new = ⊥
HasNoOther d (terminal s) old new = LacksName d old new

abbrev pub HasNoTerminal : Draft → PlainPlayScript → Option (List ℕ) → Option (List ℕ) → Type 0
HasNoTerminal d (other s) old new = HasNoOther d s old new
HasNoTerminal d (group s) old new = LacksName d old new

-- the bytes are a script of a terminal or of links, no limit that applies is out of its range, and
-- the process set lacks a name that a terminal needs: only the line about the first such name was
-- written
pub record IsWithoutTerminal (limits : TextLimits) (old new : Option (List ℕ)) (d : Draft)
    (bytes : List ℕ) : Type 0 where
  pub utf8 : IsUtf8 bytes
  pub script : PlainPlayScript
  pub reads : play_script_of bytes ≡ Ok script
  pub usual : RoundLimits
  pub is_usual : usual_over limits script ≡ Some usual
  pub lacks : HasNoTerminal d script old new

-- the bytes are a script of a terminal or of links whose first line chooses no limits, and a limit
-- of the text is out of its range; only the line about the first such limit was written
pub record IsWithoutLimit (limits : TextLimits) (old new : Option (List ℕ)) (bytes : List ℕ) :
    Type 0 where
  pub utf8 : IsUtf8 bytes
  pub script : PlainPlayScript
  pub reads : play_script_of bytes ≡ Ok script
  pub name : LimitName
  pub wrong : wrong_for limits script ≡ Some name
  pub printed : Appends old new (limit_line name)

-- why nothing ran on a process set: the bytes are no script, whatever the set; or they are a script
-- of a terminal or of links, and its text has a wrong limit or lacks a name
pub data IsNotRun (limits : TextLimits) (old new : Option (List ℕ)) (d : Draft)
    (bytes : List ℕ) : Type 0 where
  no_script : IsNoScript old new bytes → IsNotRun limits old new d bytes
  no_limit : IsWithoutLimit limits old new bytes → IsNotRun limits old new d bytes
  no_terminal : IsWithoutTerminal limits old new d bytes → IsNotRun limits old new d bytes

-- a bad line is reported by its number; running out of memory is no refusal
abbrev pub PrintsFault : ScriptFault → Option (List ℕ) → Option (List ℕ) → Type 0
PrintsFault (BadLine line) old new =
    Appends old new (line_of (codes "refused X1 BadLine line " ++ decimal line))
PrintsFault NoMemory old new = ⊥

-- The bytes of the set are accepted, and P holds of their limits, of their set and of the bytes of
-- the script. Each event of a book's script on that set is as the text of the set says.
pub record IsOnSet (set script : Option (List ℕ)) (P : TextLimits → Draft → List ℕ → Type 0) :
    Type 0 where
  pub found : FoundSet
  pub is_set : IsGiven set (λ bytes. IsFound bytes found)
  pub turns : HasTurns found.set
  pub of_script : IsGiven script (P found.limits found.set)

-- why nothing ran: the set is refused, whatever the script is; or the set is accepted, and the
-- script is refused or can't run on it
pub data IsRefused (set script old new : Option (List ℕ)) : Type 0 where
  set_refused : IsGiven set (PrintsRefusal old new) → IsRefused set script old new
  script_refused : IsOnSet set script (λ limits. IsNotRun limits old new)
      → IsRefused set script old new
