-- The output of a run of a terminal's script, and its effect on the terminal.
use Rattle.std.specs.Prelude.{◌≡◌, ℕ, Bool, List, [], ◌∷◌, ◌++◌, Option, None, Some, codes}
use Rattle.std.specs.List.{flat_map}
use Rattle.std.specs.Io.KnownBytes.{Appends}
use Rattle.turn_code.specs.declared.draft.Draft.{Draft}
use Rattle.resend_store.specs.declared.messages.Mode.{Mode}
use Rattle.resend_store.specs.declared.messages.RoundLimits.{RoundLimits}
use Rattle.link_term.specs.Term.{Term}
use Rattle.link_term.specs.Opening.{IsOverWithin}
use Rattle.link_term.specs.Wanted.{wanted, IsFirstLacking}
use Rattle.link_term.specs.WantedText.{wanted_text}
use Rattle.link_term.specs.declared.opening.OpenError.{OpenError}
use Rattle.link_term.specs.declared.opening.OpenError.TheVariants.{NoName, NoMemory}
use Rattle.link_term.specs.link_processes_types.wanted.Wanted.{Wanted}
use Rattle.script_book.specs.Lines.{line_of}
use Rattle.script_book.specs.Played.{last_in, Misses}
use Rattle.script_links.specs.Heads.{limits_over}
use Rattle.script_links.specs.TermCommands.{PlainTermCommand, expected}
use Rattle.script_links.specs.TermScripts.{PlainTermSaid, asks_told}
use Rattle.script_links.specs.declared.heads.TermHead.{TermHead}
use Rattle.script_ends.specs.TermAnswers.{GoOut, Obeys}
use Rattle.script_ends.specs.declared.terminals.TermPlayer.{TermPlayer}

-- The line printed last after these lines are printed.
abbrev pub latest : Option (List ℕ) → List (List ℕ) → Option (List ℕ)
latest last [] = last
latest last (l ∷ ls) = latest (Some l) ls

-- A run from a terminal on: whether reports are kept, the commands obeyed, their lines, the
-- terminal now, and the line printed last. `expect` prints nothing and holds if the line before is
-- its text.
pub data Goes (keeps : Bool) (first : Term) :
    List PlainTermSaid → List (List ℕ) → Term → Option (List ℕ) → Type 0 where
  begins : Goes keeps first [] [] first None
  prints : {commands : List PlainTermSaid} {lines : List (List ℕ)} {now : Term} {last : Option
      (List ℕ)} (said : PlainTermSaid) (more : List (List ℕ))
      (next : Term) → Obeys keeps said.command now more next
      → Goes keeps first commands lines now last
      → Goes keeps first (commands ++ said ∷ []) (lines ++ more) next (latest last more)
  holds : {commands : List PlainTermSaid} {lines : List (List ℕ)} {now : Term} {text : List ℕ}
      (said : PlainTermSaid)
      → said.command ≡ expected text → Goes keeps first commands lines now (Some text)
      → Goes keeps first (commands ++ said ∷ []) lines now (Some text)

-- These commands were obeyed in order, and the output grew by their lines, each with its end.
pub record IsTermRun (keeps : Bool) (first : Term) (commands : List PlainTermSaid)
    (old new : Option (List ℕ)) (now : Term) (last : Option (List ℕ)) : Type 0 where
  pub lines : List (List ℕ)
  pub goes : Goes keeps first commands lines now last
  pub written : Appends old new (flat_map line_of lines)

-- These lines were printed after the earlier output.
pub record HasPrinted (old new last next : Option (List ℕ)) (lines : List (List ℕ)) : Type 0 where
  pub latest_is : next ≡ latest last lines
  pub written : Appends old new (flat_map line_of lines)

-- A command was obeyed: an expectation that holds, which has no effect, or another command, whose
-- lines were printed after the earlier output.
pub data HasObeyed (keeps : Bool) (c : PlainTermCommand) (old new last next : Option (List ℕ))
    (t u : Term) : Type 0 where
  was_met : (text : List ℕ) → c ≡ expected text → last ≡ Some text → next ≡ last → new ≡ old
      → u ≡ t → HasObeyed keeps c old new last next t u
  was_done : (lines : List (List ℕ)) → Obeys keeps c t lines u
      → HasPrinted old new last next lines → HasObeyed keeps c old new last next t u

abbrev pub last_of : TermPlayer → Option (List ℕ)
last_of p = last_in p.printer

-- A terminal was asked for `units` units, and their lines were printed.
pub record HasGivenOut (units : ℕ) (old new last next : Option (List ℕ)) (t u : Term) : Type 0 where
  pub lines : List (List ℕ)
  pub out : GoOut units t lines u
  pub printed : HasPrinted old new last next lines

-- The commands were obeyed, with some final terminal and last line. Reports were kept if one of the
-- commands reads them.
pub record IsTermWritten (commands : List PlainTermSaid) (old new : Option (List ℕ))
    (first : Term) : Type 0 where
  pub now : Term
  pub last : Option (List ℕ)
  pub run : IsTermRun (asks_told commands) first commands old new now last

-- an expectation of a terminal's script fails
abbrev pub IsTermMissedBy :
    PlainTermSaid → Option (List ℕ) → Option (List ℕ) → Option (List ℕ) → Type 0
IsTermMissedBy said last old new =
    Misses said.line (λ text. said.command ≡ expected text) last old new

-- The commands up to an expectation were obeyed, and that fails; nothing else is written.
pub record IsTermMissed (keeps : Bool) (commands : List PlainTermSaid) (old new : Option (List ℕ))
    (first : Term) : Type 0 where
  pub before : List PlainTermSaid
  pub said : PlainTermSaid
  pub after : List PlainTermSaid
  pub stands : commands ≡ before ++ said ∷ after
  pub middle : Option (List ℕ)
  pub now : Term
  pub last : Option (List ℕ)
  pub run : IsTermRun keeps first before old middle now last
  pub missed : IsTermMissedBy said last middle new

-- As `IsTermMissed`, for all commands of a script, which decide whether reports are kept.
abbrev pub IsTermFailed :
    List PlainTermSaid → Option (List ℕ) → Option (List ℕ) → Term → Type 0
IsTermFailed commands old new first = IsTermMissed (asks_told commands) commands old new first

-- A terminal over the set is new, with this error correction and these limits.
abbrev pub IsNewWithin : Draft → Mode → Term → RoundLimits → Type 0
IsNewWithin d mode t limits = IsOverWithin d limits mode t

-- P holds of a new terminal over the set, with the error correction of a script's first line and
-- with the limits that it chooses, else the usual ones.
pub record IsOfNew (d : Draft) (usual : RoundLimits) (head : TermHead) (P : Term → Type 0) :
    Type 0 where
  pub terminal : Term
  pub is_new : IsNewWithin d head.mode terminal (limits_over usual head.limits)
  pub holds : P terminal

-- ---- no terminal

-- Only the line with the missing name is written; running out of memory is no refusal.
abbrev pub PrintsLacking : OpenError → Option (List ℕ) → Option (List ℕ) → Type 0
PrintsLacking (NoName name) old new =
    Appends old new (line_of (codes "refused X2 NoName " ++ wanted_text name))
PrintsLacking NoMemory old new = ⊥

-- The set lacks a name that a terminal requires, and only the line with the first such name was
-- written.
pub record LacksName (d : Draft) (old new : Option (List ℕ)) : Type 0 where
  pub name : Wanted
  pub lacks : IsFirstLacking d name wanted
  pub printed : Appends old new (line_of (codes "refused X2 NoName " ++ wanted_text name))
