-- The trace of a run of a link set's script: for each command, the changeover messages that it
-- caused, and the events on each link.
use Rattle.std.specs.Prelude.{◌≡◌, ◌≤◌, ◌+◌, ℕ, Bool, true, false, List, [], ◌∷◌, ◌++◌, length}
use Rattle.std.specs.Prelude.{Option, None, Some, codes, map, All}
use Rattle.std.specs.Io.KnownBytes.{Appends}
use Rattle.std.specs.Fmt.{decimal}
use Rattle.turn_code.specs.declared.draft.Draft.{Draft}
use Rattle.plain_laws.specs.Limits.{MOST_PORT, MOST_ENVIRONMENT, MOST_JOURNAL}
use Rattle.actor_machine.specs.Core.{Core}
use Rattle.actor_machine.specs.Kept.{opened_book}
use Rattle.actor_machine.specs.Ledger.{Ledger, runs, replay, state_of}
use Rattle.group_changeover.specs.declared.changeover.Changeover.{Changeover}
use Rattle.group_changeover.specs.declared.changeover.Kind.{Kind}
use Rattle.group_changeover.specs.declared.changeover.Kind.TheVariants as kind
use Rattle.group_changeover.specs.declared.errors.FailError.{FailError}
use Rattle.link_group.specs.Reading.{book_of}
use Rattle.link_group.specs.Changing.{IsRead, reply_to, fail_fault, order_at}
use Rattle.script_links.specs.GroupCommands.{PlainGroupCommand}
use Rattle.script_links.specs.GroupCommands as group
use Rattle.script_links.specs.GroupScripts.{PlainGroupSaid}
use Rattle.script_links.specs.declared.heads.GroupHead.{GroupHead}
use Rattle.script_links.specs.declared.words.GroupWord.{GroupWord}
use Rattle.script_links.specs.declared.words.GroupWord.TheVariants as words
use Rattle.script_lines.specs.Lines.{PlainLine}
use Rattle.script_ends.specs.GroupAnswers.{Playing, Obeys}
use Rattle.script_ends.specs.TermRuns.{latest}
use Rattle.plain_text.specs.Lines.{line_of}
use Rattle.script_seen.specs.Kinds.{group_line}
use Rattle.script_seen.specs.Traced.{since, told_text, are_in_step, IsFront}

-- ---- commands

abbrev pub word_only_asks : GroupWord → Bool
word_only_asks words.Fail = false
word_only_asks words.Retrieve = false
word_only_asks words.Abandon = false
word_only_asks words.Divert = false
word_only_asks words.Rebalance = false
word_only_asks words.Table = true
word_only_asks words.Held = true
word_only_asks words.Unsure = true
word_only_asks words.Link = true

-- whether a command is a question, which causes no event
abbrev pub group_only_asks : PlainGroupCommand → Bool
group_only_asks (group.order o) = false
group_only_asks (group.unit octets) = false
group_only_asks (group.line octets) = false
group_only_asks (group.out n) = false
group_only_asks (group.ticks n) = false
group_only_asks (group.state process) = true
group_only_asks (group.shown process variable) = true
group_only_asks (group.expected text) = true
group_only_asks (group.on link) = true
group_only_asks (group.sending octets) = false
group_only_asks (group.bound octets) = false
group_only_asks (group.message octets) = false
group_only_asks (group.admitting way) = false
group_only_asks (group.own word) = word_only_asks word

-- ---- messages of changeover (Q.704, 5 and 15)

-- the heading of a message, its link, and its sequence number if it has one
abbrev pub kind_text : Kind → ℕ → List ℕ
kind_text (kind.Order fsn) link =
    codes "COO link " ++ decimal link ++ codes " fsn " ++ decimal fsn
kind_text (kind.Acknowledgement fsn) link =
    codes "COA link " ++ decimal link ++ codes " fsn " ++ decimal fsn
kind_text kind.EmergencyOrder link = codes "ECO link " ++ decimal link
kind_text kind.EmergencyAcknowledgement link = codes "ECA link " ++ decimal link

-- the line of a message received or sent at this tick
abbrev pub message_line : ℕ → List ℕ → Changeover → List ℕ
message_line clock way m = line_of (decimal clock ++ way ++ kind_text m.kind m.label.sls)

abbrev pub message_text : ℕ → List ℕ → Option Changeover → List ℕ
message_text clock way None = []
message_text clock way (Some m) = message_line clock way m

abbrev pub heard_text : ℕ → Option Changeover → List ℕ
heard_text clock m = message_text clock (codes " heard ") m

abbrev pub said_text : ℕ → Option Changeover → List ℕ
said_text clock m = message_text clock (codes " said ") m

-- the changeover order for a link that fails, unless that is refused
abbrev pub order_unless : Option FailError → Changeover → Option Changeover
order_unless None m = Some m
order_unless (Some e) m = None

-- The trace of changeover messages caused by a command to this link set: the message received and
-- the answer to it, and the order for a link that fails.
abbrev pub IsChangeoverTold : ℕ → PlainGroupCommand → Playing → List ℕ → Type 0
IsChangeoverTold clock (group.message octets) p text =
    (m : Option Changeover) → IsRead octets m
    → text ≡ heard_text clock m ++ said_text clock (reply_to p.set m)
IsChangeoverTold clock (group.own words.Fail) p text =
    text ≡ said_text clock (order_unless (fail_fault p.set p.on) (order_at p.set p.on))
IsChangeoverTold clock c p text = text ≡ []

-- ---- links

-- how many events of a link are traced, and the state after them
pub record Reached : Type 0 where
  pub place : ℕ
  pub core : Core

abbrev pub reach : Draft → Reached → Ledger → Reached
reach d r b = record {
  place = r.place + length (since r.place b);
  core = replay d (runs d) r.core (since r.place b);
}

-- none of its events is lost, and the state is in step with its book
abbrev pub IsReached : Draft → Reached → Ledger → Type 0
IsReached d r b =
    (b.first ≤ r.place) × (are_in_step (reach d r b).core (state_of b) ≡ true)

-- the events on a link, after a line that names the link
abbrev pub under_name : ℕ → List ℕ → List ℕ
under_name link [] = []
under_name link (o ∷ os) = line_of (codes "on " ++ decimal link) ++ (o ∷ os)

-- the traces of the links in order, the first of them link l
abbrev pub links_text : Bool → Draft → ℕ → List Reached → List Ledger → List ℕ
links_text every d l [] bs = []
links_text every d l (r ∷ rs) [] = []
links_text every d l (r ∷ rs) (b ∷ bs) =
    under_name l (told_text every d r.core (since r.place b))
    ++ links_text every d (l + 1) rs bs

abbrev pub all_reach : Draft → List Reached → List Ledger → List Reached
all_reach d [] bs = []
all_reach d (r ∷ rs) [] = []
all_reach d (r ∷ rs) (b ∷ bs) = reach d r b ∷ all_reach d rs bs

pub data AreReached (d : Draft) : List Reached → List Ledger → Type 0 where
  none_reached : AreReached d [] []
  one_reached : (r : Reached) (b : Ledger) (rs : List Reached) (bs : List Ledger)
      → IsReached d r b → AreReached d rs bs → AreReached d (r ∷ rs) (b ∷ bs)

-- the books of the links of a set
abbrev pub books_of : Playing → List Ledger
books_of p = map book_of p.set.links

-- the ticks of a link set, whose links share one clock
abbrev pub clock_in : List Ledger → ℕ
clock_in [] = 0
clock_in (b ∷ bs) = (state_of b).timers.clock

-- the start of a link without traced events
abbrev pub reached_at : Ledger → Reached
reached_at b = record { place = 0; core = state_of b }

-- the book of a newly opened terminal that runs this process set
abbrev pub IsNewBook : Draft → Ledger → Type 0
IsNewBook d b = b ≡ opened_book d MOST_PORT MOST_ENVIRONMENT MOST_JOURNAL

-- as many new links as the script's first line states
pub record AreNewLinks (d : Draft) (head : GroupHead) (p : Playing) : Type 0 where
  pub number : length (books_of p) ≡ head.links
  pub new : All (IsNewBook d) (books_of p)

-- ---- the trace

-- The trace of commands in order, from a first link set on, with the link set now, the last printed
-- line, how far each link is traced, and the text. Each command's line comes first, then the
-- changeover messages, then the events on each link.
pub data Traces (every : Bool) (lines : List PlainLine) (d : Draft) (first : Playing) :
    List PlainGroupSaid → Playing → Option (List ℕ) → List Reached → List ℕ → Type 0 where
  begins :
      Traces every lines d first [] first None (map reached_at (books_of first)) []
  more : {commands : List PlainGroupSaid} {p : Playing} {last : Option (List ℕ)}
      {rs : List Reached} {text : List ℕ} (said : PlainGroupSaid) (front told : List ℕ)
      (printed : List (List ℕ)) (q : Playing)
      → Traces every lines d first commands p last rs text
      → IsFront (group_only_asks said.command) lines (group_line said) front
      → Obeys said.command p printed q
      → IsChangeoverTold (clock_in (books_of q)) said.command p told
      → AreReached d rs (books_of q)
      → Traces every lines d first (commands ++ said ∷ []) q (latest last printed)
      (all_reach d rs (books_of q))
      (text ++ (front ++ (told ++ links_text every d 0 rs (books_of q))))
  holds : {commands : List PlainGroupSaid} {p : Playing} {rs : List Reached} {text : List ℕ}
      {expectation : List ℕ} (said : PlainGroupSaid)
      → said.command ≡ group.expected expectation
      → Traces every lines d first commands p (Some expectation) rs text
      → Traces every lines d first (commands ++ said ∷ []) p (Some expectation) rs text

-- all commands are traced
pub record IsGroupTraced (every : Bool) (lines : List PlainLine) (d : Draft)
    (commands : List PlainGroupSaid) (old new : Option (List ℕ)) (first : Playing) : Type 0 where
  pub now : Playing
  pub last : Option (List ℕ)
  pub reached : List Reached
  pub text : List ℕ
  pub traces : Traces every lines d first commands now last reached text
  pub written : Appends old new text

-- the commands before one of these are traced, and that one is an expectation that differs from the
-- last printed line
pub record IsGroupTracedInPart (every : Bool) (lines : List PlainLine) (d : Draft)
    (commands : List PlainGroupSaid) (old new : Option (List ℕ)) (first : Playing) : Type 0 where
  pub before : List PlainGroupSaid
  pub said : PlainGroupSaid
  pub after : List PlainGroupSaid
  pub stands : commands ≡ before ++ said ∷ after
  pub now : Playing
  pub last : Option (List ℕ)
  pub reached : List Reached
  pub text : List ℕ
  pub traces : Traces every lines d first before now last reached text
  pub written : Appends old new text
  pub expectation : List ℕ
  pub expects : said.command ≡ group.expected expectation
  pub other : last ≡ Some expectation → ⊥
