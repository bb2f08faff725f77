-- Laws for every run of a link set on lines: the messages that `send` took, and the link reports
-- that were made.
use Rattle.std.specs.Prelude.{ℕ, ◌==◌, Bool, List, [], ◌∷◌, ◌++◌, filter, map, Option, None, Some}
use Rattle.script_links.specs.resend_store_types.messages.Msu.{Msu}
use Rattle.line_filter.specs.Orders.{Timed}
use Rattle.line_filter.specs.Reporting.{ToldLine, Stand}
use Rattle.line_tending.specs.Telling.{report_in}
use Rattle.line_tending.specs.Tended.{Tended}
use Rattle.line_tending.specs.declared.told.Told.{Told}
use Rattle.line_play.specs.LineTraffic.{Traffic}
use Rattle.line_play.specs.SetDoing.{Stood}
use Rattle.line_play.specs.SetGiven.{PlainSaid, given_in}
use Rattle.line_play.specs.SetOrders.{PlainSetOrder, on, links, state, value, measuring, aborted}
use Rattle.line_play.specs.SetOrders.{measures, resetting, send, table, held, unsure, rebalance}
use Rattle.line_play.specs.SetOrders.{reopen, quit, leave}
use Rattle.line_play.specs.SetQueues.{Waited, selection_in, PlainSent, taken, refused, held as kept}
use Rattle.line_play.specs.SetQueues.{AsksOf, is_taken, unlabelled, turned_down, is_kept, is_moving}
use Rattle.line_play.specs.SetQueues.{Asks, no_message, is_message, Tries, leaves, takes, refuses}
use Rattle.line_play.specs.SetQueues.{waits_on, Retries, none_yet, behind, holds, goes, TakesSend}
use Rattle.line_play.specs.SetQueues.{late, crowded, goes_now, waits_first, waits_behind}
use Rattle.line_play.specs.SetQueues.{TakesOrder, obeyed, sent, report}
use Rattle.line_play.specs.SetRounds.{Tells, nothing, one, Attends, waited, comes, looks}
use Rattle.line_play.specs.SetRounds.{AttendsAll, none_due, full, answers_wait, over, SetPlace}
use Rattle.line_play.specs.SetRounds.{Rounds, begins, round}

-- ---- the messages that the set took, in order: those of orders that were reported as ok

abbrev pub sent_asking :
    {m : Msu} {patient : Bool} {t : Tended} {s : PlainSent} {u : Tended}
    → AsksOf m patient t s u → List Msu
sent_asking {m} (is_taken room acts) = m ∷ []
sent_asking (unlabelled none_there) = []
sent_asking (turned_down why fault not_later) = []
sent_asking (is_kept why patient fault later) = []
sent_asking (is_moving patient there) = []

abbrev pub sent_of :
    {octets : List ℕ} {patient : Bool} {t : Tended} {s : PlainSent} {u : Tended}
    → Asks octets patient t s u → List Msu
sent_of (no_message none_there) = []
sent_of (is_message m is asks) = sent_asking asks

abbrev pub sent_trying :
    {text octets : List ℕ} {patient : Bool} {p : Stood} {bytes : List ToldLine} {went : Bool}
    {q : Stood} → Tries text octets patient p bytes went q → List Msu
sent_trying (leaves ended) = []
sent_trying (takes going asks) = sent_of asks
sent_trying (refuses why going asks) = sent_of asks
sent_trying (waits_on going asks) = sent_of asks

abbrev pub sent_waiting :
    {p : Stood} {waiting : List Waited} {bytes : List ToldLine} {q : Stood} {now : List Waited}
    → Retries p waiting bytes q now → List Msu
sent_waiting none_yet = []
sent_waiting (behind w before some_wait) = sent_waiting before
sent_waiting (holds w more r before none_wait tries) = sent_waiting before ++ sent_trying tries
sent_waiting (goes w more r before none_wait tries) = sent_waiting before ++ sent_trying tries

abbrev pub sent_sending :
    {text octets : List ℕ} {p : Stood} {waiting : List Waited} {bytes : List ToldLine} {q : Stood}
    {now : List Waited} → TakesSend text octets p waiting bytes q now → List Msu
sent_sending (late ended) = []
sent_sending (crowded many) = []
sent_sending (goes_now none_wait tries) = sent_trying tries
sent_sending (waits_first none_wait tries) = sent_trying tries
sent_sending (waits_behind some_wait few) = []

abbrev pub sent_taking :
    {text : List ℕ} {said : Option PlainSaid} {p : Stood} {waiting : List Waited}
    {bytes : List ToldLine} {q : Stood} {now : List Waited}
    → TakesOrder text said p waiting bytes q now → List Msu
sent_taking (obeyed made) = []
sent_taking (sent octets says made) = sent_sending made
sent_taking (report none_there is_told) = []

abbrev pub sent_attending :
    {p : Stood} {waiting : List Waited} {left : Option (List Timed)} {a : Stand}
    {bytes : List ToldLine} {q : Stood} {now : List Waited} {last : Option (List Timed)} {b : Stand}
    → Attends p waiting left a bytes q now last b → List Msu
sent_attending (waited before tells) = sent_waiting before
sent_attending (comes order more r later last c before next going may made tells) =
    sent_attending before ++ sent_taking made
sent_attending (looks more last c before anew tells) = sent_attending before

abbrev pub sent_by_all :
    {p : Stood} {waiting : List Waited} {left : Option (List Timed)} {a : Stand}
    {bytes : List ToldLine} {q : Stood} {now : List Waited} {last : Option (List Timed)} {b : Stand}
    → AttendsAll p waiting left a bytes q now last b → List Msu
sent_by_all (none_due last before none_there) = sent_attending before
sent_by_all (full last before many same) = sent_attending before
sent_by_all (answers_wait last before many same) = sent_attending before
sent_by_all (over before is) = sent_attending before

abbrev pub sent_along :
    {ahead : ℕ} {p : SetPlace} {bytes : List ToldLine} {traffic : List Traffic} {goes_on : Bool}
    {q : SetPlace} → Rounds ahead p bytes traffic goes_on q → List Msu
sent_along begins = []
sent_along (round more others goes_on before is) = sent_along before ++ sent_by_all is.attends

-- ---- the messages of the orders that came, in order

abbrev pub octets_by : PlainSetOrder → List (List ℕ)
octets_by (on focus) = []
octets_by (links order) = []
octets_by (state process) = []
octets_by (value process variable) = []
octets_by (measuring measure) = []
octets_by aborted = []
octets_by measures = []
octets_by resetting = []
octets_by (send octets) = octets ∷ []
octets_by table = []
octets_by held = []
octets_by unsure = []
octets_by rebalance = []
octets_by reopen = []
octets_by quit = []
octets_by (leave seconds) = []

abbrev pub octets_said : Option PlainSaid → List (List ℕ)
octets_said None = []
octets_said (Some said) = octets_by said.order

abbrev pub came_attending :
    {p : Stood} {waiting : List Waited} {left : Option (List Timed)} {a : Stand}
    {bytes : List ToldLine} {q : Stood} {now : List Waited} {last : Option (List Timed)} {b : Stand}
    → Attends p waiting left a bytes q now last b → List (List ℕ)
came_attending (waited before tells) = []
came_attending (comes order more r later last c before next going may made tells) =
    came_attending before ++ octets_said (given_in order).said
came_attending (looks more last c before anew tells) = came_attending before

abbrev pub came_by_all :
    {p : Stood} {waiting : List Waited} {left : Option (List Timed)} {a : Stand}
    {bytes : List ToldLine} {q : Stood} {now : List Waited} {last : Option (List Timed)} {b : Stand}
    → AttendsAll p waiting left a bytes q now last b → List (List ℕ)
came_by_all (none_due last before none_there) = came_attending before
came_by_all (full last before many same) = came_attending before
came_by_all (answers_wait last before many same) = came_attending before
came_by_all (over before is) = came_attending before

abbrev pub came_along :
    {ahead : ℕ} {p : SetPlace} {bytes : List ToldLine} {traffic : List Traffic} {goes_on : Bool}
    {q : SetPlace} → Rounds ahead p bytes traffic goes_on q → List (List ℕ)
came_along begins = []
came_along (round more others goes_on before is) = came_along before ++ came_by_all is.attends

-- some elements of a list, in its order
pub data InOrder {A : Type 0} : List A → List A → Type 0 where
  nothing_left : InOrder [] []
  skips : {xs ys : List A} (y : A) → InOrder xs ys → InOrder xs (y ∷ ys)
  keeps : {xs ys : List A} (y : A) → InOrder xs ys → InOrder (y ∷ xs) (y ∷ ys)

-- those of a selection
abbrev pub of_selection : ℕ → List (List ℕ) → List (List ℕ)
of_selection s all = filter (λ (octets : List ℕ). selection_in octets == s) all

abbrev pub octets_of : Msu → List ℕ
octets_of m = m.sio ∷ m.sif.items

-- ---- the reports of links, in the order in which they were made

abbrev pub told_in : {t : Tended} {bytes : List ToldLine} {u : Tended} → Tells t bytes u → List Told
told_in nothing = []
told_in (one x before first) = told_in before ++ report_in x

abbrev pub told_along :
    {ahead : ℕ} {p : SetPlace} {bytes : List ToldLine} {traffic : List Traffic} {goes_on : Bool}
    {q : SetPlace} → Rounds ahead p bytes traffic goes_on q → List Told
told_along begins = []
told_along (round more others goes_on before is) =
    (told_along before ++ told_in is.tells.tells) ++ told_in is.tells_more.tells
