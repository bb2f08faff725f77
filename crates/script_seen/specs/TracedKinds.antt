-- The trace of a run of each kind of script.
use Rattle.std.specs.Prelude.{◌≡◌, ℕ, Bool, true, false, List, Option, Some}
use Rattle.actor_machine.specs.Ledger.{Ledger, state_of}
use Rattle.script_lines.specs.Commands.{PlainCommand, offer, flood, call, tick, env, rest, value}
use Rattle.script_lines.specs.Commands.{expect}
use Rattle.script_lines.specs.Lines.{PlainLine}
use Rattle.script_lines.specs.Scripts.{PlainSaid}
use Rattle.script_lines.specs.declared.verbs.Call.{Call}
use Rattle.script_lines.specs.declared.verbs.Call.TheVariants.{Begin, Finish, Skip, State}
use Rattle.script_links.specs.TermCommands.{PlainTermCommand}
use Rattle.script_links.specs.TermCommands as term
use Rattle.script_links.specs.TermScripts.{PlainTermSaid}
use Rattle.script_ends.specs.Played.{Goes as BookGoes}
use Rattle.script_ends.specs.Term.{Term}
use Rattle.script_ends.specs.TermRuns.{Goes as TermGoes}
use Rattle.script_seen.specs.Kinds.{book_line, term_line}
use Rattle.script_seen.specs.Traced.{IsAt, IsTracing, IsTraced, IsTracedInPart}
use Rattle.script_seen.specs.declared.tracing.Tracer.{Tracer}

-- a tracer is at the start of a newly opened book
abbrev pub IsAtStart : Ledger → Tracer → Type 0
IsAtStart b t = IsAt b.set 0 (state_of b) t

-- ---- books

abbrev pub is_state : Call → Bool
is_state Begin = false
is_state Finish = false
is_state Skip = false
is_state State = true

-- whether a command is a question, which causes no event
abbrev pub only_asks : PlainCommand → Bool
only_asks (offer o) = false
only_asks (flood n o) = false
only_asks (call c name) = is_state c
only_asks (tick n) = false
only_asks env = false
only_asks rest = false
only_asks (value process variable) = true
only_asks (expect text) = true

abbrev pub book_asks : PlainSaid → Bool
book_asks s = only_asks s.command

-- the book after commands were obeyed
pub record BookBehind (b : Ledger) (commands : List PlainSaid) (now : Ledger) : Type 0 where
  pub lines : List (List ℕ)
  pub last : Option (List ℕ)
  pub goes : BookGoes b commands lines now last

-- the expectation after these commands differs from the last printed line
pub record BookMisses (b : Ledger) (commands : List PlainSaid) (said : PlainSaid) : Type 0 where
  pub lines : List (List ℕ)
  pub now : Ledger
  pub last : Option (List ℕ)
  pub goes : BookGoes b commands lines now last
  pub text : List ℕ
  pub expects : said.command ≡ expect text
  pub other : last ≡ Some text → ⊥

abbrev pub BookTracing :
    List PlainLine → Ledger → List PlainSaid → Option (List ℕ) → Option (List ℕ) → Tracer
    → Type 0
BookTracing lines b commands old new t =
    IsTracing lines book_line book_asks b.set (state_of b) (BookBehind b) commands old new t

abbrev pub IsBookTraced :
    Bool → List PlainLine → Ledger → List PlainSaid → Option (List ℕ) → Option (List ℕ)
    → Type 0
IsBookTraced every lines b commands old new =
    IsTraced every lines book_line book_asks b.set (state_of b) (BookBehind b) commands old new

abbrev pub IsBookTracedInPart :
    Bool → List PlainLine → Ledger → List PlainSaid → Option (List ℕ) → Option (List ℕ)
    → Type 0
IsBookTracedInPart every lines b commands old new =
    IsTracedInPart every lines book_line book_asks b.set (state_of b) (BookBehind b)
    (BookMisses b) commands old new

-- ---- terminals

abbrev pub term_only_asks : PlainTermCommand → Bool
term_only_asks (term.order o) = false
term_only_asks (term.unit octets) = false
term_only_asks (term.units n octets) = false
term_only_asks (term.errors n) = false
term_only_asks (term.line octets) = false
term_only_asks (term.msu octets) = false
term_only_asks (term.out n) = false
term_only_asks (term.ticks n) = false
term_only_asks term.told = false
term_only_asks term.accepted = false
term_only_asks (term.retrieving behind) = false
term_only_asks (term.measuring measure) = true
term_only_asks term.counting_aborted = true
term_only_asks term.resetting = false
term_only_asks (term.state process) = true
term_only_asks (term.shown process variable) = true
term_only_asks (term.expected text) = true

abbrev pub term_asks : PlainTermSaid → Bool
term_asks s = term_only_asks s.command

-- the book of a terminal
abbrev pub book_in : Term → Ledger
book_in t = t.processes.book

-- the book of a terminal after commands were obeyed
pub record TermBehind (keeps : Bool) (t : Term) (commands : List PlainTermSaid) (now : Ledger) :
    Type 0 where
  pub lines : List (List ℕ)
  pub last : Option (List ℕ)
  pub term : Term
  pub goes : TermGoes keeps t commands lines term last
  pub is : book_in term ≡ now

-- the expectation after these commands differs from the last printed line
pub record TermMisses (keeps : Bool) (t : Term) (commands : List PlainTermSaid)
    (said : PlainTermSaid) : Type 0 where
  pub lines : List (List ℕ)
  pub now : Term
  pub last : Option (List ℕ)
  pub goes : TermGoes keeps t commands lines now last
  pub text : List ℕ
  pub expects : said.command ≡ term.expected text
  pub other : last ≡ Some text → ⊥

abbrev pub TermTracing :
    Bool → List PlainLine → Term → List PlainTermSaid → Option (List ℕ) → Option (List ℕ)
    → Tracer → Type 0
TermTracing keeps lines t commands old new tracer =
    IsTracing lines term_line term_asks (book_in t).set (state_of (book_in t))
    (TermBehind keeps t) commands old new tracer

abbrev pub IsTermTraced :
    Bool → Bool → List PlainLine → Term → List PlainTermSaid → Option (List ℕ)
    → Option (List ℕ) → Type 0
IsTermTraced every keeps lines t commands old new =
    IsTraced every lines term_line term_asks (book_in t).set (state_of (book_in t))
    (TermBehind keeps t) commands old new

abbrev pub IsTermTracedInPart :
    Bool → Bool → List PlainLine → Term → List PlainTermSaid → Option (List ℕ)
    → Option (List ℕ) → Type 0
IsTermTracedInPart every keeps lines t commands old new =
    IsTracedInPart every lines term_line term_asks (book_in t).set (state_of (book_in t))
    (TermBehind keeps t) (TermMisses keeps t) commands old new
