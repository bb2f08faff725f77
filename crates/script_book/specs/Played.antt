-- The output of a script's run, and its effect on the book.
use Rattle.std.specs.Prelude.{◌≡◌, ℕ, List, [], ◌∷◌, ◌++◌, Option, None, Some, option_map, codes}
use Rattle.std.specs.Fmt.{decimal}
use Rattle.std.specs.List.{flat_map}
use Rattle.std.specs.Io.KnownBytes.{Appends}
use Rattle.turn_code.specs.declared.draft.Draft.{Draft}
use Rattle.actor_machine.specs.Ledger.{Ledger}
use Rattle.actor_machine.specs.Kept.{opened_book}
use Rattle.script_lines.specs.Commands.{expect}
use Rattle.script_lines.specs.Scripts.{PlainSaid}
use Rattle.script_lines.specs.declared.settings.Settings.{Settings}
use Rattle.plain_text.specs.Lines.{line_of}
use Rattle.script_book.specs.Answers.{obeyed}
use Rattle.script_book.specs.declared.player.Player.{Player}
use Rattle.script_book.specs.declared.printer.Printer.{Printer}

-- The book in which a script begins: that of a set, with the numbers of the first lines.
abbrev pub first_book : Draft → Settings → Ledger
first_book d s = opened_book d s.ports s.env s.journal

-- A run from a book on: the commands obeyed, their lines, the book now, and the line printed last.
-- Commands change the book and print as `obeyed` states, except `expect`: it prints nothing and
-- holds if the line before is its text.
pub data Goes (b : Ledger) :
    List PlainSaid → List (List ℕ) → Ledger → Option (List ℕ) → Type 0 where
  begins : Goes b [] [] b None
  prints : {commands : List PlainSaid} {lines : List (List ℕ)} {now : Ledger} {last : Option
      (List ℕ)} (said : PlainSaid)
      → ((text : List ℕ) → said.command ≡ expect text → ⊥) → Goes b commands lines now last
      → Goes b (commands ++ said ∷ []) (lines ++ (obeyed now said.command).line
      ∷ []) (obeyed now said.command).book (Some (obeyed now said.command).line)
  holds : {commands : List PlainSaid} {lines : List (List ℕ)} {now : Ledger} {text : List ℕ}
      (said : PlainSaid)
      → said.command ≡ expect text → Goes b commands lines now (Some text)
      → Goes b (commands ++ said ∷ []) lines now (Some text)

-- The line printed last.
abbrev pub last_in : Printer → Option (List ℕ)
last_in p = option_map (λ line. line.items) p.last

abbrev pub last_of : Player → Option (List ℕ)
last_of p = last_in p.printer

-- These commands were obeyed in order, and the output grew by their lines, each with its end.
pub record IsRun (b : Ledger) (commands : List PlainSaid) (old new : Option (List ℕ)) (now : Ledger)
    (last : Option (List ℕ)) : Type 0 where
  pub lines : List (List ℕ)
  pub goes : Goes b commands lines now last
  pub written : Appends old new (flat_map line_of lines)

-- As `IsRun`, for some final book and last line.
pub record IsWritten (b : Ledger) (commands : List PlainSaid) (old new : Option (List ℕ)) :
    Type 0 where
  pub now : Ledger
  pub last : Option (List ℕ)
  pub run : IsRun b commands old new now last

-- The line that reports a failed expectation, with the number of its line.
abbrev pub missed_text : ℕ → List ℕ
missed_text line = codes "failed line " ++ decimal line

-- An expectation fails: the line before isn't its text, and the output grows by the line that
-- reports it.
pub record Misses (line : ℕ) (Expects : List ℕ → Type 0) (last old new : Option (List ℕ)) :
    Type 0 where
  pub text : List ℕ
  pub expects : Expects text
  pub other : last ≡ Some text → ⊥
  pub printed : Appends old new (line_of (missed_text line))

abbrev pub IsMissedBy : PlainSaid → Option (List ℕ) → Option (List ℕ) → Option (List ℕ) → Type 0
IsMissedBy said last old new = Misses said.line (λ text. said.command ≡ expect text) last old new

-- The commands up to an expectation were obeyed, and that fails; nothing else is written.
pub record IsMissed (b : Ledger) (commands : List PlainSaid) (old new : Option (List ℕ)) :
    Type 0 where
  pub before : List PlainSaid
  pub said : PlainSaid
  pub after : List PlainSaid
  pub stands : commands ≡ before ++ said ∷ after
  pub middle : Option (List ℕ)
  pub now : Ledger
  pub last : Option (List ℕ)
  pub run : IsRun b before old middle now last
  pub missed : IsMissedBy said last middle new
