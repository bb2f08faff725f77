-- The meaning of `play`'s status for the report at the end of a run, and for a capture.
use Rattle.std.specs.Prelude.{◌≡◌, ℕ, Bool, true, false, List, Option, Some, None, Result, Ok, Err}
use Rattle.std.specs.Prelude.{IfSome, IsUtf8, map}
use Rattle.std.specs.Global.{Vec}
use Rattle.std.specs.Io.KnownBytes.{Appends}
use Rattle.turn_code.specs.declared.draft.Draft.{Draft}
use Rattle.script_check.specs.Checked.{IsSetOf}
use Rattle.resend_store.specs.declared.messages.RoundLimits.{RoundLimits}
use Rattle.script_links.specs.TermScripts.{PlainAnyScript, book, terminal, asks_told}
use Rattle.script_links.specs.GroupScripts.{PlainPlayScript, other, group, play_script_of}
use Rattle.script_book.specs.Played.{first_book}
use Rattle.script_seen.specs.GroupRuns.{IsOfNewSet}
use Rattle.script_seen.specs.TermRuns.{IsOfNew}
use Rattle.script_seen.specs.Turn.{Turn}
use Rattle.script_seen.specs.Watched.{Notice, TurnEnd, turns_in}
use Rattle.script_seen.specs.WatchedKinds.{IsBookWatched, IsBookWatchedInPart, IsTermWatched}
use Rattle.script_seen.specs.WatchedKinds.{IsTermWatchedInPart}
use Rattle.script_covered.specs.Texts.{IsLcov}
use Rattle.script_play.specs.Captured.{IsCaptured, IsCapturedInPart}
use Rattle.script_play.specs.CapturedSets.{IsSetCaptured, IsSetCapturedInPart}
use Rattle.mtp2_text.specs.declared.limits.TextLimits.{TextLimits}
use Rattle.script_play.specs.Limits.{usual_over}
use Rattle.script_play.specs.Played.{IsObeyed, IsMissedIn, IsPlayed, IsPlayedInPart}
use Rattle.script_play.specs.Charted.{charted_of}
use Rattle.script_play.specs.Thrown.{thrown_of}
use Rattle.script_play.specs.Traced.{IsPlayTraced, IsPlayTracedInPart}
use Rattle.script_play.specs.declared.seeing.Wanted.{Wanted}
use Rattle.script_play.specs.declared.seeing.Wanted.TheVariants.{Trace, Capture, AtEnd, Coverage}
use Rattle.script_play.specs.declared.watching.RunSummary.{RunSummary}
use Rattle.script_play.specs.declared.watching.RunSummary.TheVariants.{Chart, Thrown}

-- P holds of the notices of all commands of a script: on a book of the process set, or on a new
-- terminal that runs it, with the usual limits unless the script sets its own
abbrev pub IsOtherTold :
    RoundLimits → Draft → PlainAnyScript → (List Notice → Type 0) → Type 0
IsOtherTold usual d (book s) P = IsBookWatched (first_book d s.settings) s.commands P
IsOtherTold usual d (terminal s) P =
    IsOfNew d usual s.head (λ t. IsTermWatched (asks_told s.commands) t s.commands P)

-- P holds of the notices of a script; a script of a link set has no report
abbrev pub AreTold : RoundLimits → Draft → PlainPlayScript → (List Notice → Type 0) → Type 0
AreTold usual d (other s) P = IsOtherTold usual d s P
AreTold usual d (group s) P = ⊥

-- P holds of the notices of the commands before an expectation that failed
abbrev pub IsOtherToldInPart :
    RoundLimits → Draft → PlainAnyScript → (List Notice → Type 0) → Type 0
IsOtherToldInPart usual d (book s) P = IsBookWatchedInPart (first_book d s.settings) s.commands P
IsOtherToldInPart usual d (terminal s) P =
    IsOfNew d usual s.head (λ t. IsTermWatchedInPart (asks_told s.commands) t s.commands P)

abbrev pub AreToldInPart :
    RoundLimits → Draft → PlainPlayScript → (List Notice → Type 0) → Type 0
AreToldInPart usual d (other s) P = IsOtherToldInPart usual d s P
AreToldInPart usual d (group s) P = ⊥

-- the bytes are a script, all of whose commands were obeyed, and P holds of its notices
pub record IsPlayTold (limits : TextLimits) (old new : Option (List ℕ))
    (P : List Notice → Type 0) (d : Draft) (bytes : List ℕ) : Type 0 where
  pub utf8 : IsUtf8 bytes
  pub script : PlainPlayScript
  pub reads : play_script_of bytes ≡ Ok script
  pub usual : RoundLimits
  pub is_usual : usual_over limits script ≡ Some usual
  pub run : IsObeyed usual d script old new
  pub told : AreTold usual d script P

-- the bytes are a script, and one of its expectations failed; P holds of the notices of the
-- commands before it
pub record IsPlayToldInPart (limits : TextLimits) (old new : Option (List ℕ))
    (P : List Notice → Type 0) (d : Draft) (bytes : List ℕ) : Type 0 where
  pub utf8 : IsUtf8 bytes
  pub script : PlainPlayScript
  pub reads : play_script_of bytes ≡ Ok script
  pub usual : RoundLimits
  pub is_usual : usual_over limits script ≡ Some usual
  pub missed : IsMissedIn usual d script old new
  pub told : AreToldInPart usual d script P

-- the report was written
abbrev pub IsToldTo :
    {E : Type 0} → Result (Vec ℕ) E → Option (List ℕ) → Option (List ℕ) → Type 0
IsToldTo (Ok text) old new = Appends old new text.items
IsToldTo (Err error) old new = ⊥

-- the text that `tells` makes of all notices was written
abbrev pub Grew :
    (Draft → List Notice → List ℕ) → Draft → Option (List ℕ) → Option (List ℕ) → List Notice
    → Type 0
Grew tells d old new ns = Appends old new (tells d ns)

-- ---- captures

-- a terminal's script is captured; a book's script has no signal units
abbrev pub IsOtherCaptured :
    RoundLimits → Bool → Draft → PlainAnyScript → Option (List ℕ) → Option (List ℕ) → Type 0
IsOtherCaptured usual every d (book s) old new = ⊥
IsOtherCaptured usual every d (terminal s) old new =
    IsOfNew d usual s.head
    (λ t. IsCaptured every (asks_told s.commands) t s.commands old new)

-- a script of a terminal or of a link set is captured
abbrev pub AreCaptured :
    RoundLimits → Bool → Draft → PlainPlayScript → Option (List ℕ) → Option (List ℕ) → Type 0
AreCaptured usual every d (other s) old new = IsOtherCaptured usual every d s old new
AreCaptured usual every d (group s) old new =
    IsOfNewSet d usual s.head (IsSetCaptured every s.commands old new)

-- a script is captured up to an expectation that failed
abbrev pub IsOtherCapturedInPart :
    RoundLimits → Bool → Draft → PlainAnyScript → Option (List ℕ) → Option (List ℕ) → Type 0
IsOtherCapturedInPart usual every d (book s) old new = ⊥
IsOtherCapturedInPart usual every d (terminal s) old new =
    IsOfNew d usual s.head
    (λ t. IsCapturedInPart every (asks_told s.commands) t s.commands old new)

abbrev pub AreCapturedInPart :
    RoundLimits → Bool → Draft → PlainPlayScript → Option (List ℕ) → Option (List ℕ) → Type 0
AreCapturedInPart usual every d (other s) old new = IsOtherCapturedInPart usual every d s old new
AreCapturedInPart usual every d (group s) old new =
    IsOfNewSet d usual s.head (IsSetCapturedInPart every s.commands old new)

-- the bytes are a script, all of whose commands were obeyed, and whose links are captured
pub record IsPlayCaptured (limits : TextLimits) (every : Bool) (old new from to : Option (List ℕ))
    (d : Draft) (bytes : List ℕ) : Type 0 where
  pub utf8 : IsUtf8 bytes
  pub script : PlainPlayScript
  pub reads : play_script_of bytes ≡ Ok script
  pub usual : RoundLimits
  pub is_usual : usual_over limits script ≡ Some usual
  pub run : IsObeyed usual d script old new
  pub captured : AreCaptured usual every d script from to

-- `IsPlayCaptured`, up to an expectation that failed
pub record IsPlayCapturedInPart (limits : TextLimits) (every : Bool)
    (old new from to : Option (List ℕ)) (d : Draft) (bytes : List ℕ) : Type 0 where
  pub utf8 : IsUtf8 bytes
  pub script : PlainPlayScript
  pub reads : play_script_of bytes ≡ Ok script
  pub usual : RoundLimits
  pub is_usual : usual_over limits script ≡ Some usual
  pub missed : IsMissedIn usual d script old new
  pub captured : AreCapturedInPart usual every d script from to

-- ---- the coverage of the set's text

-- the turns of a run
abbrev pub turns_run : List Notice → List Turn
turns_run ns = map (λ (t : TurnEnd). t.turn) (turns_in ns)

-- the coverage of a text by the turns of a run was written; `name` is the file name in it
pub record IsCoveredBy (name text : List ℕ) (old new : Option (List ℕ)) (ns : List Notice) :
    Type 0 where
  pub out : List ℕ
  pub is_lcov : IsLcov name text (turns_run ns) out
  pub written : Appends old new out

-- the coverage of the set's text was written; the text has these bytes if they are known
pub record IsTextCovered (name : List ℕ) (known : Option (List ℕ)) (limits : TextLimits)
    (old new from to : Option (List ℕ)) (d : Draft) (bytes : List ℕ) : Type 0 where
  pub text : List ℕ
  pub is_known : IfSome known (λ all. text ≡ all)
  pub is_set : IsSetOf text d
  pub told : IsPlayTold limits old new (IsCoveredBy name text from to) d bytes

pub record IsTextCoveredInPart (name : List ℕ) (known : Option (List ℕ)) (limits : TextLimits)
    (old new from to : Option (List ℕ)) (d : Draft) (bytes : List ℕ) : Type 0 where
  pub text : List ℕ
  pub is_known : IfSome known (λ all. text ≡ all)
  pub is_set : IsSetOf text d
  pub told : IsPlayToldInPart limits old new (IsCoveredBy name text from to) d bytes

-- the coverage of some text of the set was written, with some file name
pub record IsSomeCovered (limits : TextLimits) (old new from to : Option (List ℕ)) (d : Draft)
    (bytes : List ℕ) : Type 0 where
  pub name : List ℕ
  pub text : List ℕ
  pub is_set : IsSetOf text d
  pub told : IsPlayTold limits old new (IsCoveredBy name text from to) d bytes

pub record IsSomeCoveredInPart (limits : TextLimits) (old new from to : Option (List ℕ))
    (d : Draft) (bytes : List ℕ) : Type 0 where
  pub name : List ℕ
  pub text : List ℕ
  pub is_set : IsSetOf text d
  pub told : IsPlayToldInPart limits old new (IsCoveredBy name text from to) d bytes

-- ---- the view of a run

-- the report at the end of a run, from all notices
abbrev pub told_of : RunSummary → Draft → List Notice → List ℕ
told_of (Chart cut) d ns = charted_of cut d ns
told_of Thrown d ns = thrown_of d ns

-- the bytes are a script that was run, and the requested view of the run was written
abbrev pub IsPlaySeen :
    TextLimits → Wanted → Option (List ℕ) → Option (List ℕ) → Option (List ℕ) → Option (List ℕ)
    → Draft → List ℕ → Type 0
IsPlaySeen limits (Trace every) old new from to d bytes =
    IsPlayTraced limits every old new from to d bytes
IsPlaySeen limits (Capture every) old new from to d bytes =
    IsPlayCaptured limits every old new from to d bytes
IsPlaySeen limits (AtEnd told) old new from to d bytes =
    IsPlayTold limits old new (Grew (told_of told) d from to) d bytes
IsPlaySeen limits Coverage old new from to d bytes = IsSomeCovered limits old new from to d bytes

abbrev pub IsPlaySeenInPart :
    TextLimits → Wanted → Option (List ℕ) → Option (List ℕ) → Option (List ℕ) → Option (List ℕ)
    → Draft → List ℕ → Type 0
IsPlaySeenInPart limits (Trace every) old new from to d bytes =
    IsPlayTracedInPart limits every old new from to d bytes
IsPlaySeenInPart limits (Capture every) old new from to d bytes =
    IsPlayCapturedInPart limits every old new from to d bytes
IsPlaySeenInPart limits (AtEnd told) old new from to d bytes =
    IsPlayToldInPart limits old new (Grew (told_of told) d from to) d bytes
IsPlaySeenInPart limits Coverage old new from to d bytes =
    IsSomeCoveredInPart limits old new from to d bytes

-- ---- with an echo, with a view in a file, or with neither

-- A script was played with an echo of its lines, if `echo` is true; else with the requested view in
-- a file, if there is one, whose content was `was` and is now `has`.
pub data IsWatched (limits : TextLimits) (echo : Bool) (wanted : Wanted)
    (old new : Option (List ℕ)) (begun now : Option (Option (List ℕ))) (d : Draft)
    (bytes : List ℕ) : Type 0 where
  has_lines : echo ≡ true → IsPlayed limits echo old new d bytes
      → IsWatched limits echo wanted old new begun now d bytes
  has_neither : echo ≡ false → begun ≡ None → IsPlayed limits echo old new d bytes
      → IsWatched limits echo wanted old new begun now d bytes
  has_file : (was has : Option (List ℕ)) → echo ≡ false → begun ≡ Some was → now ≡ Some has
      → IsPlaySeen limits wanted old new was has d bytes
      → IsWatched limits echo wanted old new begun now d bytes

pub data IsWatchedInPart (limits : TextLimits) (echo : Bool) (wanted : Wanted)
    (old new : Option (List ℕ)) (begun now : Option (Option (List ℕ))) (d : Draft)
    (bytes : List ℕ) : Type 0 where
  has_lines_in_part : echo ≡ true → IsPlayedInPart limits echo old new d bytes
      → IsWatchedInPart limits echo wanted old new begun now d bytes
  has_neither_in_part : echo ≡ false → begun ≡ None → IsPlayedInPart limits echo old new d bytes
      → IsWatchedInPart limits echo wanted old new begun now d bytes
  has_file_in_part : (was has : Option (List ℕ)) → echo ≡ false → begun ≡ Some was → now ≡ Some has
      → IsPlaySeenInPart limits wanted old new was has d bytes
      → IsWatchedInPart limits echo wanted old new begun now d bytes
