-- What an order to a link set changes, and why it is refused.
use Rattle.std.specs.Prelude.{◌≡◌, ⊤, ℕ, ◌+◌, ◌-◌, ◌*◌, ◌^◌, ◌≤◌, min, Bool, true, false, ◌&&◌}
use Rattle.std.specs.Prelude.{List, [], ◌∷◌, ◌++◌, codes, string_bytes, slice_get, slice_set}
use Rattle.std.specs.Prelude.{Option, None, Some, option_map, unwrap_or}
use Rattle.line_filter.specs.Reporting.{ToldLine, kept}
use Rattle.line_filter.specs.declared.reports.Wait.TheVariants.{Answer}
use Rattle.link_group.specs.Printed.{rebalance_error_text}
use Rattle.script_ends.specs.Answers.{actor_named, state_line, value_line}
use Rattle.script_ends.specs.Term.{Term}
use Rattle.script_ends.specs.TermAnswers.{command_of}
use Rattle.link_processes.specs.declared.commands.Command.{Command}
use Rattle.link_group.specs.Commanding.{is_start, command_error_text}
use Rattle.link_group.specs.Lines.{ByCommand}
use Rattle.link_group.specs.Links.{read_at}
use Rattle.link_group.specs.Placing.{rebalance_fault, rebalanced}
use Rattle.line_tending.specs.Giving.{IsOther, IsDisobeyed}
use Rattle.line_tending.specs.Orders.{after_order}
use Rattle.line_tending.specs.Readers.{is_put_off}
use Rattle.link_group.specs.Reading.{book_of, terminal_of}
use Rattle.line_tending.specs.Tended.{Tended, link_count}
use Rattle.line_tending.specs.group_changeover_types.errors.RebalanceError.{RebalanceError}
use Rattle.link_group.specs.declared.commanding.CommandError.{CommandError}
use Rattle.line_play.specs.declared.set.measures.Since.{Since}
use Rattle.line_play.specs.declared.set.orders.Focus.{Focus}
use Rattle.line_play.specs.declared.set.orders.Focus.TheVariants.{Nothing, Link as OneLink, All}
use Rattle.line_play.specs.declared.set.state.Ending.{Ending}
use Rattle.line_play.specs.declared.set.state.Ending.TheVariants.{Stays, Leaves, Stops, Over}
use Rattle.line_play.specs.declared.set.state.SetState.{SetState}
use Rattle.line_play.specs.SetCounting.{begun_at}
use Rattle.line_play.specs.SetGiven.{PlainSaid, links_of, lacks}
use Rattle.line_play.specs.SetOrders.{PlainSetOrder, on, links, state, value, measuring, aborted}
use Rattle.line_play.specs.SetOrders.{measures, resetting, send, table, held, unsure, rebalance}
use Rattle.line_play.specs.SetOrders.{reopen, quit, leave, needs_links}

-- ---- a set and its orders

pub record Stood : Type 0 where
  pub tender : Tended
  -- the links addressed by orders that name none
  pub focus : Focus
  -- the measurements of its links when their counts were last reset
  pub since : List Since
  -- whether the run goes on, or how it ends
  pub ending : Ending
  -- the beginning of the answers to the current order: its tag and a space, or nothing
  pub mark : List ℕ

-- the millisecond: the number of rounds so far
abbrev pub millisecond_of : SetState → ℕ
millisecond_of s = s.tender.ticks

abbrev pub now_of : Stood → ℕ
now_of p = p.tender.ticks

abbrev pub stood : SetState → Stood
stood s = record {
  tender = s.tender;
  focus = s.focus;
  since = s.since.items;
  ending = s.ending;
  mark = string_bytes s.mark;
}

-- an order with this mark begins
abbrev pub marked : List ℕ → Stood → Stood
marked mark p = record p { mark = mark }

-- a line of the answer to the current order
abbrev pub answered : Stood → List ℕ → List ToldLine
answered p text = kept Answer p.tender.ticks (p.mark ++ text)

-- the links that an order addresses, and whether none is selected or one doesn't exist
abbrev pub links_at : PlainSaid → Stood → List ℕ
links_at s p = links_of s.whom p.focus (link_count p.tender)

abbrev pub lacks_links : PlainSaid → Stood → Bool
lacks_links s p = needs_links s.order && lacks s.whom p.focus (link_count p.tender)

-- the first of them, or 0
abbrev pub first_of : List ℕ → ℕ
first_of [] = 0
first_of (l ∷ ls) = l

-- there is no such link
abbrev pub IsNoLink : Focus → Tended → Type 0
IsNoLink Nothing t = ⊤
IsNoLink (OneLink l) t = link_count t ≤ l
IsNoLink All t = ⊥

-- ---- what an order changes

-- A link obeys a command. A start is kept until its time comes, and changes nothing at once. Any
-- other command is noted as ordered. Back and Free are only noted while they would end what holds
-- because of the reader of messages.
pub data ObeysAt (command : Command) (l : ℕ) (t u : Tended) : Type 0 where
  waits : is_start command ≡ true → u ≡ t → ObeysAt command l t u
  put_off : is_put_off t.reader command ≡ true
      → u ≡ record t { ordered = after_order l command t.ordered } → ObeysAt command l t u
  gives : is_start command ≡ false → is_put_off t.reader command ≡ false
      → ByCommand command l t.set u.set → u.ordered ≡ after_order l command t.ordered
      → ObeysAt command l t u

-- A link obeys a command, or link_group says why it doesn't. `first` is the first such reason
-- before it, if any; the last argument is the first one after it.
pub data TriesAt (command : Command) (l : ℕ) (t : Tended) (first : Option CommandError)
    (u : Tended) : Option CommandError → Type 0 where
  obeys : ObeysAt command l t u → TriesAt command l t first u first
  disobeys : (why : CommandError) → IsOther why → IsDisobeyed command l t u why
      → TriesAt command l t first u (Some (unwrap_or first why))

-- links are given it one after another; the first reason why one doesn't obey, if any
pub data TriesEach (command : Command) (t : Tended) :
    List ℕ → Tended → Option CommandError → Type 0 where
  no_command : TriesEach command t [] t None
  one_command : {ls : List ℕ} {u w : Tended} {first last : Option CommandError} (l : ℕ)
      → TriesEach command t ls u first → TriesAt command l u first w last
      → TriesEach command t (ls ++ l ∷ []) w last

-- the addressed links obey it
pub record Commands (command : Command) (whom : List ℕ) (p q : Stood) : Type 0 where
  pub each : TriesEach command p.tender whom q.tender None
  pub same : q ≡ record p { tender = q.tender }

-- orders address these links from now on
pub record Looks (focus : Focus) (p q : Stood) : Type 0 where
  pub there : IsNoLink focus p.tender → ⊥
  pub is : q ≡ record p { focus = focus }

-- the terminal of a link, if it exists
abbrev pub terminal_at : Tended → ℕ → Option Term
terminal_at t l = read_at terminal_of (slice_get t.set.links l)

-- the counts of a link are reset
abbrev pub reset_to : ℕ → Option Term → List Since → List Since
reset_to l None since = since
reset_to l (Some t) since = slice_set since l (begun_at t)

abbrev pub reset_at : ℕ → Stood → Stood
reset_at l p = record p { since = reset_to l (terminal_at p.tender l) p.since }

-- the counts of these links are reset, one after another
pub data Resets (p : Stood) : List ℕ → Stood → Type 0 where
  none_reset : Resets p [] p
  one_reset : {ls : List ℕ} {q : Stood} (l : ℕ) → Resets p ls q
      → Resets p (ls ++ l ∷ []) (reset_at l q)

-- the SLS values are shared out again
pub record Rebalances (p q : Stood) : Type 0 where
  pub may : rebalance_fault p.tender.set ≡ None
  pub is : q ≡ record p { tender = record p.tender { set = rebalanced p.tender.set } }

-- how many seconds messages are sent before links are stopped: as ordered, or 10
abbrev pub LEAVES_FOR : ℕ
LEAVES_FOR = 10

abbrev pub leaves_for : Option ℕ → ℕ
leaves_for seconds = unwrap_or seconds LEAVES_FOR

-- No message is taken from now on, and links are stopped when none holds one, or at this
-- millisecond; once they are stopped, the run ends as it was to end.
abbrev pub leaves_from : Ending → ℕ → Ending
leaves_from Stays until = Leaves until
leaves_from (Leaves before) until = Leaves until
leaves_from (Stops since) until = Stops since
leaves_from Over until = Over

abbrev pub leaving : Option ℕ → Stood → Stood
leaving seconds p = record p {
  ending = leaves_from p.ending (min (2 ^ 64 - 1) (p.tender.ticks + leaves_for seconds * 1000));
}

-- An order to links is that command to each addressed link, `measure reset` resets the counts of
-- these links, and a question changes nothing.
abbrev pub Changes : PlainSetOrder → List ℕ → Stood → Stood → Type 0
Changes (on focus) whom p q = Looks focus p q
Changes (links order) whom p q = Commands (command_of order) whom p q
Changes (state process) whom p q = q ≡ p
Changes (value process variable) whom p q = q ≡ p
Changes (measuring measure) whom p q = q ≡ p
Changes aborted whom p q = q ≡ p
Changes measures whom p q = q ≡ p
Changes resetting whom p q = Resets p whom q
Changes (send octets) whom p q = ⊥
Changes table whom p q = q ≡ p
Changes held whom p q = q ≡ p
Changes unsure whom p q = q ≡ p
Changes rebalance whom p q = Rebalances p q
Changes reopen whom p q = q ≡ p
Changes quit whom p q = q ≡ record p { ending = Over }
Changes (leave seconds) whom p q = q ≡ leaving seconds p

-- ---- why an order is refused, and what has changed then

abbrev pub NO_LINK : List ℕ
NO_LINK = codes "K1 NoLink"

-- there is no such link, and from then on none is selected
pub record NoFocus (focus : Focus) (p : Stood) (why : List ℕ) (q : Stood) : Type 0 where
  pub none_there : IsNoLink focus p.tender
  pub why_is : why ≡ NO_LINK
  pub none_selected : q ≡ record p { focus = Nothing }

-- the link set refuses it, and reports the code and name of the fault
pub record NoRebalance (p : Stood) (why : List ℕ) (q : Stood) : Type 0 where
  pub error : RebalanceError
  pub fault : rebalance_fault p.tender.set ≡ Some error
  pub why_is : why ≡ rebalance_error_text error
  pub same : q ≡ p

-- some of the addressed links don't obey it, and the first reason is reported
pub record NoCommand (command : Command) (whom : List ℕ) (p : Stood) (why : List ℕ) (q : Stood) :
    Type 0 where
  pub error : CommandError
  pub each : TriesEach command p.tender whom q.tender (Some error)
  pub why_is : why ≡ command_error_text error
  pub same : q ≡ record p { tender = q.tender }

-- the line that a script prints for the state of an actor of a link, or for the value of one of
-- its variables, if the link exists
abbrev pub state_at : List ℕ → Tended → ℕ → Option (List ℕ)
state_at process t l =
    option_map (λ b. state_line b (actor_named b process))
    (read_at book_of (slice_get t.set.links l))

abbrev pub value_at : List ℕ → List ℕ → Tended → ℕ → Option (List ℕ)
value_at process variable t l =
    option_map (λ b. value_line b variable (actor_named b process))
    (read_at book_of (slice_get t.set.links l))

-- the line is a refusal
pub record NotShown (line : Option (List ℕ)) (p : Stood) (why : List ℕ) (q : Stood) : Type 0 where
  pub refused : line ≡ Some (codes "refused " ++ why)
  pub same : q ≡ p

-- Links may refuse a command. A question about an actor or variable is refused if the text has no
-- such name. If its links exist, of the other orders only `on`, `rebalance` and `reopen` may be
-- refused. Only links that obeyed may have changed, and a refused `on` selects none.
abbrev pub Refuses : PlainSetOrder → List ℕ → Stood → List ℕ → Stood → Type 0
Refuses (on focus) whom p why q = NoFocus focus p why q
Refuses (links order) whom p why q = NoCommand (command_of order) whom p why q
Refuses (state process) whom p why q =
    NotShown (state_at process p.tender (first_of whom)) p why q
Refuses (value process variable) whom p why q =
    NotShown (value_at process variable p.tender (first_of whom)) p why q
Refuses (measuring measure) whom p why q = ⊥
Refuses aborted whom p why q = ⊥
Refuses measures whom p why q = ⊥
Refuses resetting whom p why q = ⊥
Refuses (send octets) whom p why q = ⊥
Refuses table whom p why q = ⊥
Refuses held whom p why q = ⊥
Refuses unsure whom p why q = ⊥
Refuses rebalance whom p why q = NoRebalance p why q
Refuses reopen whom p why q = (why ≡ codes "F2 NoFile") × (q ≡ p)
Refuses quit whom p why q = ⊥
Refuses (leave seconds) whom p why q = ⊥

-- the line, if there is one, is no refusal
abbrev pub IsShowable : Option (List ℕ) → Type 0
IsShowable line = (why : List ℕ) → line ≡ Some (codes "refused " ++ why) → ⊥

abbrev pub MayShow : PlainSetOrder → List ℕ → Tended → Type 0
MayShow (on focus) whom t = Unit {0}
MayShow (links order) whom t = Unit {0}
MayShow (state process) whom t = IsShowable (state_at process t (first_of whom))
MayShow (value process variable) whom t = IsShowable (value_at process variable t (first_of whom))
MayShow (measuring measure) whom t = Unit {0}
MayShow aborted whom t = Unit {0}
MayShow measures whom t = Unit {0}
MayShow resetting whom t = Unit {0}
MayShow (send octets) whom t = Unit {0}
MayShow table whom t = Unit {0}
MayShow held whom t = Unit {0}
MayShow unsure whom t = Unit {0}
MayShow rebalance whom t = Unit {0}
MayShow reopen whom t = Unit {0}
MayShow quit whom t = Unit {0}
MayShow (leave seconds) whom t = Unit {0}
