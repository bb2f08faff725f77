-- The effect of each command of a link set's script on the set, and the lines that it prints.
use Rattle.std.specs.Prelude.{◌≡◌, ℕ, ◌<◌, ◌≤◌, zero, suc, Bool, true, false, List, [], ◌∷◌, ◌++◌}
use Rattle.std.specs.Prelude.{length, drop, Option, None, Some, slice_get, codes}
use Rattle.std.specs.Fmt.{decimal}
use Rattle.hex.specs.Hex.{encode_upper}
use Rattle.resend_store.specs.declared.messages.Msu.{Msu}
use Rattle.su_octets.specs.Printed.{unit_text}
use Rattle.su_octets.specs.declared.units.Unit as units
use Rattle.actor_machine.specs.declared.reply.Refusal.{Refusal}
use Rattle.link_term.specs.link_processes_types.commands.Command.{Command}
use Rattle.link_transceiver.specs.declared.signals.Report.{Report}
use Rattle.group_changeover.specs.declared.changeover.Changeover.{Changeover}
use Rattle.su_octets.specs.Bits.{AreOctets}
use Rattle.group_changeover.specs.Changeovers.{Says}
use Rattle.link_group.specs.declared.link.Link.{Link}
use Rattle.link_group.specs.declared.commanding.CommandError.{CommandError}
use Rattle.link_group.specs.declared.commanding.CommandError.TheVariants as barring
use Rattle.group_changeover.specs.declared.errors.FailError.{FailError}
use Rattle.group_changeover.specs.declared.errors.RetrieveError.{RetrieveError}
use Rattle.group_changeover.specs.declared.errors.AbandonError.{AbandonError}
use Rattle.group_changeover.specs.declared.errors.AbandonError.TheVariants as abandoning
use Rattle.link_group.specs.Set.{LinkSet, send_fault, sent, bind_fault_at, bound_at}
use Rattle.link_group.specs.Changing.{fail_fault, after_failure, order_at, IsRead, after_message}
use Rattle.link_group.specs.Changing.{reply_to, retrieve_fault_at, after_retrieve, messages_for}
use Rattle.link_group.specs.Changing.{abandon_fault_at, after_abandon, unsent_at}
use Rattle.link_group.specs.Diverting.{divert_fault, after_divert, divert_error_text}
use Rattle.link_group.specs.Placing.{rebalance_fault, rebalanced}
use Rattle.link_group.specs.Lines.{ByLink, ByCommand, Alone, after_admission}
use Rattle.link_group.specs.Doing.{Listened, Sent, Reported}
use Rattle.link_group.specs.Commanding.{Refused, is_barred}
use Rattle.link_group.specs.OneLink.{but_memory}
use Rattle.link_group.specs.Ticking.{all_due}
use Rattle.link_group.specs.Ticks.{with_room, tick_fault, after_ticks}
use Rattle.link_group.specs.Reading.{held_count, sent_count, book_of}
use Rattle.link_group.specs.Stating.{state_of}
use Rattle.group_changeover.specs.Printed.{send_error_text, bind_error_text, fail_error_text}
use Rattle.group_changeover.specs.Printed.{retrieve_error_text, abandon_error_text}
use Rattle.group_changeover.specs.Printed.{divert_fault_text, rebalance_error_text}
use Rattle.script_links.specs.declared.words.GroupWord.{GroupWord}
use Rattle.script_links.specs.declared.words.GroupWord.TheVariants as words
use Rattle.script_links.specs.GroupCommands.{PlainGroupCommand}
use Rattle.script_links.specs.GroupCommands as commands
use Rattle.script_book.specs.Refused.{refused_text}
use Rattle.script_book.specs.Answers.{actor_named, state_line, value_line}
use Rattle.script_ends.specs.TermAnswers.{command_of, IsMessageOf}
use Rattle.script_ends.specs.UnitLines.{IsLineOf}
use Rattle.script_ends.specs.Shown.{table_line, link_text}

-- The state of a running script: the set, and the current link.
pub record Playing : Type 0 where
  pub set : LinkSet
  pub on : ℕ

abbrev pub at : LinkSet → ℕ → Playing
at c l = record { set = c; on = l }

-- ---- lines

abbrev pub NO_LINK : List ℕ
NO_LINK = codes "refused K1 NoLink"

-- `ok`, or the line of a refusal.
abbrev pub said_by : {E : Type 0} → (E → List ℕ) → Option E → List ℕ
said_by text None = codes "ok"
said_by text (Some e) = codes "refused " ++ text e

-- The effect of a call on a set; a refused call changes nothing.
abbrev pub set_by : {E : Type 0} → Option E → LinkSet → LinkSet → LinkSet
set_by None new old = new
set_by (Some e) new old = old

abbrev pub octets_line : List ℕ → List ℕ
octets_line octets = codes "ok " ++ encode_upper octets

abbrev pub count_line : ℕ → List ℕ
count_line n = codes "ok " ++ decimal n

-- ---- commands to the terminal of a link

-- The order goes to the actors of the link's terminal. Start is refused (K2) until a changeover of
-- the link has retrieved its messages. If the actors refuse, only room in the journal is made.
pub data IsTold (e : Command) (l : ℕ) (c : LinkSet) : List ℕ → LinkSet → Type 0 where
  told_nowhere : length c.links ≤ l → IsTold e l c NO_LINK c
  told_waits :
      (k : Link) → slice_get c.links l ≡ Some k → is_barred e k ≡ true
      → IsTold e l c (codes "refused K2 Waiting") c
  told_refused :
      (r : Refusal) (d : LinkSet) → Alone (Refused e r) l c d → IsTold e l c (refused_text r) d
  told_taken : (d : LinkSet) → ByCommand e l c d → IsTold e l c (codes "ok") d

-- The line of a refused order; none if memory ran out.
abbrev pub IsBarredLine : CommandError → List ℕ → Type 0
IsBarredLine barring.NoLink text = text ≡ NO_LINK
IsBarredLine barring.Waiting text = text ≡ codes "refused K2 Waiting"
IsBarredLine (barring.Refused r) text = text ≡ refused_text r
IsBarredLine barring.NoMemory text = ⊥

-- ---- octets of the line

-- Whether a report of a link was taken out.
pub data HasReported (l : ℕ) (c d : LinkSet) : Bool → Type 0 where
  was_one : (r : Report) → ByLink (Reported (Some r)) l c d → HasReported l c d true
  was_none : ByLink (Reported None) l c d → HasReported l c d false

-- All reports of a link are taken out, one after another.
pub data GivesReports (l : ℕ) : LinkSet → LinkSet → Type 0 where
  last_given : (c d : LinkSet) → ByLink (Reported None) l c d → GivesReports l c d
  one_given :
      (c m d : LinkSet) (r : Report) → ByLink (Reported (Some r)) l c m → GivesReports l m d
      → GivesReports l c d

-- Octets of the line are received in parts, and all reports are taken out after each part. A part
-- has at least one octet; it has all remaining ones, or ends when the terminal takes no more.
pub data Listens (l : ℕ) : LinkSet → List ℕ → LinkSet → Type 0 where
  heard_all : (c : LinkSet) → Listens l c [] c
  heard_part :
      (c m w d : LinkSet) (octets : List ℕ) (taken : ℕ) → 0 < taken
      → ByLink (Listened octets taken) l c m → GivesReports l m w
      → Listens l w (drop taken octets) d → Listens l c octets d

-- A part, and the reports taken out after it.
pub record TakesPart (l : ℕ) (octets : List ℕ) (taken : ℕ) (c d : LinkSet) : Type 0 where
  pub some : 0 < taken
  pub few : taken ≤ length octets
  pub between : LinkSet
  pub heard : ByLink (Listened octets taken) l c between
  pub reports : GivesReports l between d

pub data TakesLine (l : ℕ) (octets : List ℕ) (c : LinkSet) : List ℕ → LinkSet → Type 0 where
  line_nowhere : length c.links ≤ l → TakesLine l octets c NO_LINK c
  line_heard :
      (d : LinkSet) → l < length c.links → Listens l c octets d
      → TakesLine l octets c (codes "ok") d

-- A signal unit is received, given its octets without check octets.
pub record TakesUnit (l : ℕ) (octets : List ℕ) (c : LinkSet) (text : List ℕ) (d : LinkSet) :
    Type 0 where
  pub come : List ℕ
  pub are : IsLineOf octets come
  pub takes : TakesLine l come c text d

-- ---- sent units

-- Up to n units of a link are requested, and each one sent has a line. If there is none, the line
-- `silent` says so, and no more are requested.
pub data GoOut (l : ℕ) : ℕ → LinkSet → List (List ℕ) → LinkSet → Type 0 where
  none_goes : (c : LinkSet) → GoOut l zero c [] c
  silent : (n : ℕ) (c d : LinkSet) → ByLink (Sent None) l c d
      → GoOut l (suc n) c (codes "silent" ∷ []) d
  one_goes : (n : ℕ) (c m d : LinkSet) (x : units.Unit) (lines : List (List ℕ))
      → ByLink (Sent (Some x)) l c m → GoOut l n m lines d
      → GoOut l (suc n) c (unit_text x ∷ lines) d

-- A refusal is one line, however many units are requested.
pub data GivesOut (l n : ℕ) (c : LinkSet) : List (List ℕ) → LinkSet → Type 0 where
  out_nowhere : length c.links ≤ l → GivesOut l n c (NO_LINK ∷ []) c
  out_goes : (lines : List (List ℕ)) (d : LinkSet) → l < length c.links → GoOut l n c lines d
      → GivesOut l n c lines d

-- ---- ticks

-- The ticks pass on all links, or on none.
pub data Passes (n : ℕ) (c : LinkSet) : List ℕ → LinkSet → Type 0 where
  passed : tick_fault n c ≡ None
      → Passes n c (codes "ok due " ++ decimal (all_due n (with_room c.links))) (after_ticks n c)
  held_up : (r : Refusal) → tick_fault n c ≡ Some r
      → Passes n c (refused_text r) (record c { links = with_room c.links })

-- ---- messages to send, and changeover

pub record IsSent (octets : List ℕ) (c : LinkSet) (text : List ℕ) (d : LinkSet) : Type 0 where
  pub msu : Msu
  pub octets_are : IsMessageOf octets msu
  pub says : text ≡ said_by send_error_text (send_fault c msu)
  pub makes : d ≡ set_by (send_fault c msu) (sent c msu) c

pub record IsBoundTo (octets : List ℕ) (l : ℕ) (c : LinkSet) (text : List ℕ) (d : LinkSet) :
    Type 0 where
  pub msu : Msu
  pub octets_are : IsMessageOf octets msu
  pub says : text ≡ said_by bind_error_text (bind_fault_at c l)
  pub makes : d ≡ set_by (bind_fault_at c l) (bound_at c l msu) c

-- A changeover begins, and the octets of its order are printed.
pub data Fails (l : ℕ) (c : LinkSet) : List ℕ → LinkSet → Type 0 where
  fails_refused :
      (e : FailError) → fail_fault c l ≡ Some e
      → Fails l c (codes "refused " ++ fail_error_text e) c
  fails_begins :
      (sif : List ℕ) → fail_fault c l ≡ None → AreOctets sif → Says sif (order_at c l)
      → Fails l c (octets_line sif) (after_failure c l)

-- The octets of an answer, if there is one.
abbrev pub IsReplied : Option Changeover → List ℕ → Type 0
IsReplied None text = text ≡ codes "ok"
IsReplied (Some m) text = (sif : List ℕ) × AreOctets sif × Says sif m × (text ≡ octets_line sif)

-- The received octets are read, and the set takes the message that they form, if any.
pub record IsHeard (octets : List ℕ) (c : LinkSet) (text : List ℕ) (d : LinkSet) : Type 0 where
  pub makes : (m : Option Changeover) → IsRead octets m → d ≡ after_message c m
  pub says : (m : Option Changeover) → IsRead octets m → IsReplied (reply_to c m) text

-- The lines of refusals; none if memory ran out.
abbrev pub IsRetrieveLine : RetrieveError → List ℕ → Type 0
IsRetrieveLine e text = (but_memory e ≡ Some e) × (text ≡ codes "refused " ++ retrieve_error_text e)

abbrev pub IsAbandonLine : AbandonError → List ℕ → Type 0
IsAbandonLine abandoning.NoMemory text = ⊥
IsAbandonLine abandoning.NoLink text =
    text ≡ codes "refused " ++ abandon_error_text abandoning.NoLink
IsAbandonLine abandoning.Waiting text =
    text ≡ codes "refused " ++ abandon_error_text abandoning.Waiting

-- Messages are retrieved.
pub data Retrieves (l : ℕ) (c : LinkSet) : List ℕ → LinkSet → Type 0 where
  retrieves_refused :
      (e : RetrieveError) → retrieve_fault_at c l ≡ Some e
      → Retrieves l c (codes "refused " ++ retrieve_error_text e) c
  retrieves_given : retrieve_fault_at c l ≡ None
      → Retrieves l c (count_line (length (messages_for c l))) (after_retrieve c l)

pub data Abandons (l : ℕ) (c : LinkSet) : List ℕ → LinkSet → Type 0 where
  abandons_refused :
      (e : AbandonError) → abandon_fault_at c l ≡ Some e
      → Abandons l c (codes "refused " ++ abandon_error_text e) c
  abandons_given : abandon_fault_at c l ≡ None
      → Abandons l c (count_line (length (unsent_at c l))) (after_abandon c l)

-- The line of a diversion.
-- The messages retrieved from a link are diverted, or as many as possible.
pub record Diverts (l : ℕ) (c : LinkSet) (text : List ℕ) (d : LinkSet) : Type 0 where
  pub says : text ≡ said_by divert_error_text (divert_fault c l)
  pub makes : d ≡ after_divert c l

-- A link that exists is admitted, or no longer.
pub data Admits (way : Bool) (l : ℕ) (c : LinkSet) : List ℕ → LinkSet → Type 0 where
  admits_nowhere : length c.links ≤ l → Admits way l c NO_LINK c
  admits_one : l < length c.links → Admits way l c (codes "ok") (after_admission c l way)

pub record Rebalances (c : LinkSet) (text : List ℕ) (d : LinkSet) : Type 0 where
  pub says : text ≡ said_by rebalance_error_text (rebalance_fault c)
  pub makes : d ≡ set_by (rebalance_fault c) (rebalanced c) c

-- ---- lines that show the state

abbrev pub held_line : Option Link → List ℕ
held_line None = NO_LINK
held_line (Some k) = decimal (held_count k) ++ codes " sent " ++ decimal (sent_count k)

abbrev pub link_line : Option Link → List ℕ
link_line None = NO_LINK
link_line (Some k) = link_text (state_of k)

abbrev pub state_at : List ℕ → Option Link → List ℕ
state_at process None = NO_LINK
state_at process (Some k) =
    state_line (book_of k) (actor_named (book_of k) process)

abbrev pub value_at : List ℕ → List ℕ → Option Link → List ℕ
value_at process variable None = NO_LINK
value_at process variable (Some k) =
    value_line (book_of k) variable (actor_named (book_of k) process)

-- ---- all commands

-- Only the set changes.
pub record OnSet (P : List ℕ → LinkSet → Type 0) (p : Playing) (text : List ℕ) (q : Playing) :
    Type 0 where
  pub set : P text q.set
  pub on : q.on ≡ p.on

-- Nothing changes.
pub record Shows (shown : List ℕ) (p : Playing) (text : List ℕ) (q : Playing) : Type 0 where
  pub says : text ≡ shown
  pub same : q ≡ p

abbrev pub WordAnswers : GroupWord → Playing → List ℕ → Playing → Type 0
WordAnswers words.Fail p text q = OnSet (Fails p.on p.set) p text q
WordAnswers words.Retrieve p text q = OnSet (Retrieves p.on p.set) p text q
WordAnswers words.Abandon p text q = OnSet (Abandons p.on p.set) p text q
WordAnswers words.Divert p text q = OnSet (Diverts p.on p.set) p text q
WordAnswers words.Rebalance p text q = OnSet (Rebalances p.set) p text q
WordAnswers words.Table p text q = Shows (table_line p.set.table) p text q
WordAnswers words.Held p text q = Shows (held_line (slice_get p.set.links p.on)) p text q
WordAnswers words.Unsure p text q = Shows (decimal p.set.unsure) p text q
WordAnswers words.Link p text q = Shows (link_line (slice_get p.set.links p.on)) p text q

-- The effect of a command that prints one line, and that line. `out`, `on` and `expect` are
-- excluded here.
abbrev pub Answers : PlainGroupCommand → Playing → List ℕ → Playing → Type 0
Answers (commands.order o) p text q = OnSet (IsTold (command_of o) p.on p.set) p text q
Answers (commands.unit octets) p text q = OnSet (TakesUnit p.on octets p.set) p text q
Answers (commands.line octets) p text q = OnSet (TakesLine p.on octets p.set) p text q
Answers (commands.out n) p text q = (text ≡ []) × (q ≡ p)
Answers (commands.ticks n) p text q = OnSet (Passes n p.set) p text q
Answers (commands.state process) p text q =
    Shows (state_at process (slice_get p.set.links p.on)) p text q
Answers (commands.shown process variable) p text q =
    Shows (value_at process variable (slice_get p.set.links p.on)) p text q
Answers (commands.expected said) p text q = (text ≡ []) × (q ≡ p)
Answers (commands.on l) p text q = (text ≡ []) × (q ≡ p)
Answers (commands.sending octets) p text q = OnSet (IsSent octets p.set) p text q
Answers (commands.message octets) p text q = OnSet (IsHeard octets p.set) p text q
Answers (commands.bound octets) p text q = OnSet (IsBoundTo octets p.on p.set) p text q
Answers (commands.admitting way) p text q = OnSet (Admits way p.on p.set) p text q
Answers (commands.own word) p text q = WordAnswers word p text q

pub record AnswersOne (c : PlainGroupCommand) (p : Playing) (lines : List (List ℕ)) (q : Playing) :
    Type 0 where
  pub text : List ℕ
  pub one : lines ≡ text ∷ []
  pub answers : Answers c p text q

-- Units of the current link are requested.
pub record Outputs (n : ℕ) (p : Playing) (lines : List (List ℕ)) (q : Playing) : Type 0 where
  pub goes : GivesOut p.on n p.set lines q.set
  pub on : q.on ≡ p.on

-- Later lines refer to another link, which may or may not exist; nothing is printed.
pub record TurnsTo (l : ℕ) (p : Playing) (lines : List (List ℕ)) (q : Playing) : Type 0 where
  pub none : lines ≡ []
  pub makes : q ≡ record p { on = l }

-- A command was obeyed: its effect on the state, and its lines. `expect` is no command to a link
-- set.
abbrev pub Obeys : PlainGroupCommand → Playing → List (List ℕ) → Playing → Type 0
Obeys (commands.out n) p lines q = Outputs n p lines q
Obeys (commands.on l) p lines q = TurnsTo l p lines q
Obeys (commands.expected text) p lines q = ⊥
Obeys c p lines q = AnswersOne c p lines q
