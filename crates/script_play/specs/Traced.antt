-- The meaning of `play`'s status for a trace.
use Rattle.std.specs.Prelude.{◌≡◌, ℕ, Bool, List, Option, Some, Ok, IsUtf8}
use Rattle.turn_code.specs.declared.draft.Draft.{Draft}
use Rattle.resend_store.specs.declared.messages.RoundLimits.{RoundLimits}
use Rattle.script_links.specs.TermScripts.{PlainAnyScript, book, terminal, asks_told}
use Rattle.script_links.specs.GroupScripts.{PlainPlayScript, other, group, play_script_of}
use Rattle.script_lines.specs.Lines.{PlainLine, lines_of}
use Rattle.script_book.specs.Played.{first_book}
use Rattle.script_seen.specs.TermRuns.{IsOfNew}
use Rattle.script_seen.specs.GroupRuns.{IsOfNewSet}
use Rattle.script_seen.specs.TracedGroups.{IsGroupTraced, IsGroupTracedInPart}
use Rattle.script_seen.specs.TracedKinds.{IsBookTraced, IsBookTracedInPart, IsTermTraced}
use Rattle.script_seen.specs.TracedKinds.{IsTermTracedInPart}
use Rattle.mtp2_text.specs.declared.limits.TextLimits.{TextLimits}
use Rattle.script_play.specs.Limits.{usual_over}
use Rattle.script_play.specs.Played.{IsObeyed, IsMissedIn}

-- all commands of a script are traced: on a book of the process set, or on a new terminal that runs
-- it, with the usual limits unless the script sets its own
abbrev pub IsOtherTraced :
    RoundLimits → Bool → List PlainLine → Draft → PlainAnyScript → Option (List ℕ)
    → Option (List ℕ) → Type 0
IsOtherTraced usual every lines d (book s) old new =
    IsBookTraced every lines (first_book d s.settings) s.commands old new
IsOtherTraced usual every lines d (terminal s) old new =
    IsOfNew d usual s.head
    (λ t. IsTermTraced every (asks_told s.commands) lines t s.commands old new)

-- all commands are traced, also those of a script of links with such terminals
abbrev pub AreTraced :
    RoundLimits → Bool → List PlainLine → Draft → PlainPlayScript → Option (List ℕ)
    → Option (List ℕ) → Type 0
AreTraced usual every lines d (other s) old new = IsOtherTraced usual every lines d s old new
AreTraced usual every lines d (group s) old new =
    IsOfNewSet d usual s.head (IsGroupTraced every lines d s.commands old new)

-- the commands before an expectation that failed are traced
abbrev pub IsOtherTracedInPart :
    RoundLimits → Bool → List PlainLine → Draft → PlainAnyScript → Option (List ℕ)
    → Option (List ℕ) → Type 0
IsOtherTracedInPart usual every lines d (book s) old new =
    IsBookTracedInPart every lines (first_book d s.settings) s.commands old new
IsOtherTracedInPart usual every lines d (terminal s) old new =
    IsOfNew d usual s.head
    (λ t. IsTermTracedInPart every (asks_told s.commands) lines t s.commands old new)

abbrev pub AreTracedInPart :
    RoundLimits → Bool → List PlainLine → Draft → PlainPlayScript → Option (List ℕ)
    → Option (List ℕ) → Type 0
AreTracedInPart usual every lines d (other s) old new =
    IsOtherTracedInPart usual every lines d s old new
AreTracedInPart usual every lines d (group s) old new =
    IsOfNewSet d usual s.head (IsGroupTracedInPart every lines d s.commands old new)

-- the bytes are a script, all of whose commands were obeyed and are traced
pub record IsPlayTraced (limits : TextLimits) (every : Bool) (old new begun now : Option (List ℕ))
    (d : Draft) (bytes : List ℕ) : Type 0 where
  pub utf8 : IsUtf8 bytes
  pub script : PlainPlayScript
  pub reads : play_script_of bytes ≡ Ok script
  pub usual : RoundLimits
  pub is_usual : usual_over limits script ≡ Some usual
  pub run : IsObeyed usual d script old new
  pub traced : AreTraced usual every (lines_of bytes) d script begun now

-- the bytes are a script, and one of its expectations failed; the commands before it are traced
pub record IsPlayTracedInPart (limits : TextLimits) (every : Bool)
    (old new begun now : Option (List ℕ)) (d : Draft) (bytes : List ℕ) : Type 0 where
  pub utf8 : IsUtf8 bytes
  pub script : PlainPlayScript
  pub reads : play_script_of bytes ≡ Ok script
  pub usual : RoundLimits
  pub is_usual : usual_over limits script ≡ Some usual
  pub missed : IsMissedIn usual d script old new
  pub traced : AreTracedInPart usual every (lines_of bytes) d script begun now
