-- The echo of a run of each kind of script.
use Rattle.std.specs.Prelude.{ℕ, Bool, List, [], Option, Some}
use Rattle.actor_machine.specs.Ledger.{Ledger}
use Rattle.script_lines.specs.Lines.{PlainLine}
use Rattle.script_lines.specs.Scripts.{PlainSaid}
use Rattle.script_links.specs.TermScripts.{PlainTermSaid, asks_told}
use Rattle.script_links.specs.GroupScripts.{PlainGroupSaid}
use Rattle.script_ends.specs.Term.{Term}
use Rattle.script_ends.specs.Played.{IsRun, IsWritten, IsMissed}
use Rattle.script_ends.specs.TermRuns.{IsTermRun, IsTermMissed}
use Rattle.script_ends.specs.GroupAnswers.{Playing}
use Rattle.script_ends.specs.GroupRuns.{IsGroupRun, IsGroupWritten, IsGroupMissed}
use Rattle.script_seen.specs.Shown.{IsShowing, IsMissing, IsShown, IsShownMissed}

-- ---- books

abbrev pub book_line : PlainSaid → ℕ
book_line s = s.line

-- the text that commands print on a link that starts with this book
abbrev pub Prints : Ledger → List PlainSaid → List ℕ → Type 0
Prints b commands printed = IsWritten b commands (Some []) (Some printed)

-- the text that they print if an expectation fails
abbrev pub PrintsMissed : Ledger → List PlainSaid → List ℕ → Type 0
PrintsMissed b commands printed = IsMissed b commands (Some []) (Some printed)

abbrev pub IsBookShown :
    List PlainLine → Ledger → List PlainSaid → Option (List ℕ) → Option (List ℕ) → Type 0
IsBookShown lines b commands old new = IsShown lines book_line (Prints b) commands old new

abbrev pub IsBookShownMissed :
    List PlainLine → Ledger → List PlainSaid → Option (List ℕ) → Option (List ℕ) → Type 0
IsBookShownMissed lines b commands old new =
    IsShownMissed lines book_line (Prints b) (PrintsMissed b) commands old new

-- these commands were obeyed and echoed so far
abbrev pub BookShowing :
    List PlainLine → Ledger → List PlainSaid → Option (List ℕ) → Option (List ℕ) → List ℕ
    → Ledger → Option (List ℕ) → Type 0
BookShowing lines b commands first now printed book last =
    IsShowing lines book_line (Prints b) commands first now printed
    × IsRun b commands (Some []) (Some printed) book last

-- the expectation after them fails
abbrev pub BookMissing :
    List PlainLine → Ledger → List PlainSaid → PlainSaid → Option (List ℕ) → Option (List ℕ)
    → Type 0
BookMissing lines b before said first now =
    IsMissing lines book_line (Prints b) (PrintsMissed b) before said first now

-- ---- terminals

abbrev pub term_line : PlainTermSaid → ℕ
term_line s = s.line

-- the text that commands print on a terminal; `keeps`: whether the terminal's reports are kept
pub record TermPrints (keeps : Bool) (t : Term) (commands : List PlainTermSaid)
    (printed : List ℕ) : Type 0 where
  pub now : Term
  pub last : Option (List ℕ)
  pub run : IsTermRun keeps t commands (Some []) (Some printed) now last

abbrev pub TermPrintsMissed : Bool → Term → List PlainTermSaid → List ℕ → Type 0
TermPrintsMissed keeps t commands printed = IsTermMissed keeps commands (Some []) (Some printed) t

abbrev pub IsTermShownBy :
    Bool → List PlainLine → List PlainTermSaid → Option (List ℕ) → Option (List ℕ) → Term
    → Type 0
IsTermShownBy keeps lines commands old new t =
    IsShown lines term_line (TermPrints keeps t) commands old new

abbrev pub IsTermShownMissedBy :
    Bool → List PlainLine → List PlainTermSaid → Option (List ℕ) → Option (List ℕ) → Term
    → Type 0
IsTermShownMissedBy keeps lines commands old new t =
    IsShownMissed lines term_line (TermPrints keeps t) (TermPrintsMissed keeps t) commands old new

-- the reports are kept if one of the commands needs them
abbrev pub IsTermShown :
    List PlainLine → List PlainTermSaid → Option (List ℕ) → Option (List ℕ) → Term → Type 0
IsTermShown lines commands old new t =
    IsTermShownBy (asks_told commands) lines commands old new t

abbrev pub IsTermShownMissed :
    List PlainLine → List PlainTermSaid → Option (List ℕ) → Option (List ℕ) → Term → Type 0
IsTermShownMissed lines commands old new t =
    IsTermShownMissedBy (asks_told commands) lines commands old new t

abbrev pub TermShowing :
    Bool → List PlainLine → Term → List PlainTermSaid → Option (List ℕ) → Option (List ℕ)
    → List ℕ → Term → Option (List ℕ) → Type 0
TermShowing keeps lines t commands first now printed terminal last =
    IsShowing lines term_line (TermPrints keeps t) commands first now printed
    × IsTermRun keeps t commands (Some []) (Some printed) terminal last

abbrev pub TermMissing :
    Bool → List PlainLine → Term → List PlainTermSaid → PlainTermSaid → Option (List ℕ)
    → Option (List ℕ) → Type 0
TermMissing keeps lines t before said first now =
    IsMissing lines term_line (TermPrints keeps t) (TermPrintsMissed keeps t) before said first now

-- ---- link sets

abbrev pub group_line : PlainGroupSaid → ℕ
group_line s = s.line

abbrev pub GroupPrints : Playing → List PlainGroupSaid → List ℕ → Type 0
GroupPrints p commands printed = IsGroupWritten commands (Some []) (Some printed) p

abbrev pub GroupPrintsMissed : Playing → List PlainGroupSaid → List ℕ → Type 0
GroupPrintsMissed p commands printed = IsGroupMissed commands (Some []) (Some printed) p

abbrev pub IsGroupShown :
    List PlainLine → List PlainGroupSaid → Option (List ℕ) → Option (List ℕ) → Playing → Type 0
IsGroupShown lines commands old new p =
    IsShown lines group_line (GroupPrints p) commands old new

abbrev pub IsGroupShownMissed :
    List PlainLine → List PlainGroupSaid → Option (List ℕ) → Option (List ℕ) → Playing → Type 0
IsGroupShownMissed lines commands old new p =
    IsShownMissed lines group_line (GroupPrints p) (GroupPrintsMissed p) commands old new

abbrev pub GroupShowing :
    List PlainLine → Playing → List PlainGroupSaid → Option (List ℕ) → Option (List ℕ) → List ℕ
    → Playing → Option (List ℕ) → Type 0
GroupShowing lines p commands first now printed playing last =
    IsShowing lines group_line (GroupPrints p) commands first now printed
    × IsGroupRun p commands (Some []) (Some printed) playing last

abbrev pub GroupMissing :
    List PlainLine → Playing → List PlainGroupSaid → PlainGroupSaid → Option (List ℕ)
    → Option (List ℕ) → Type 0
GroupMissing lines p before said first now =
    IsMissing lines group_line (GroupPrints p) (GroupPrintsMissed p) before said first now
