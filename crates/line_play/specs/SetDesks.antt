-- A link set on lines, with its orders and reports.
use Rattle.std.specs.Prelude.{◌≡◌, ℕ, Bool, true, false, List, [], length, All, Option, None}
use Rattle.line_filter.specs.Orders.{Timed}
use Rattle.line_tending.specs.Tended.{Tended}
use Rattle.line_tending.specs.LinkLines.{IsNewWire}
use Rattle.line_tending.specs.declared.link_line.LinkLine.{LinkLine}
use Rattle.line_filter.specs.Reporting.{Stand, ToldLine}
use Rattle.line_play.specs.LineTraffic.{Traffic}
use Rattle.line_play.specs.SetDoing.{stood}
use Rattle.line_play.specs.SetQueues.{waiting_in}
use Rattle.line_play.specs.SetRounds.{Made, SetPlace, Rounds, begins, round}
use Rattle.line_play.specs.declared.set.desk.SetDesk.{SetDesk}
use Rattle.line_play.specs.declared.set.measures.Since.{Since}
use Rattle.line_play.specs.declared.set.orders.Focus.TheVariants.{Link as OneLink}
use Rattle.line_play.specs.declared.set.state.Ending.TheVariants.{Stays}

-- the counts of a link since it was made
abbrev pub IsNewCount : Since → Type 0
IsNewCount s = s.begun ≡ None

-- the counts of each link since it was made
pub record AreNewCounts (links : ℕ) (ss : List Since) : Type 0 where
  pub count : length ss ≡ links
  pub new : All IsNewCount ss

-- a wire for each line, on which nothing was received or sent
pub record AreNewWires (links : ℕ) (ws : List LinkLine) : Type 0 where
  pub count : length ws ≡ links
  pub new : All IsNewWire ws

abbrev pub place_of :
    {O P : Type 0} → (O → Option (List Timed)) → (P → Stand) → SetDesk O P → SetPlace
place_of left stand d = record {
  stood = stood d.state;
  wires = d.wires.items;
  waiting = waiting_in d.queue;
  left = left d.orders;
  reports = stand d.reports;
}

-- nothing was received or sent, no order waits, and orders address link 0
pub record IsNewSetDesk {O P : Type 0} (tender : Tended) (ahead : ℕ) (orders : O) (reports : P)
    (desk : SetDesk O P) : Type 0 where
  pub set : desk.state.tender ≡ tender
  pub wires : AreNewWires tender.plan.links desk.wires.items
  pub ahead_is : desk.ahead ≡ ahead
  pub focus : desk.state.focus ≡ OneLink 0
  pub since : AreNewCounts tender.plan.links desk.state.since.items
  pub stays : desk.state.ending ≡ Stays
  pub none_wait : waiting_in desk.queue ≡ []
  pub orders_are : desk.orders ≡ orders
  pub reports_are : desk.reports ≡ reports

-- whether a round was made
abbrev pub some_round :
    {ahead : ℕ} {p : SetPlace} {bytes : List ToldLine} {traffic : List Traffic} {goes_on : Bool}
    {q : SetPlace} → Rounds ahead p bytes traffic goes_on q → Bool
some_round begins = false
some_round (round more others goes_on before is) = true

-- at least one round was made, one after another; the last one ended the run or didn't
pub record Ran (ahead : ℕ) (p : SetPlace) (bytes : List ToldLine) (traffic : List Traffic)
    (q : SetPlace) : Type 0 where
  pub goes_on : Bool
  pub rounds : Rounds ahead p bytes traffic goes_on q
  pub some : some_round rounds ≡ true

-- A link set ran from its first round on: nothing had been received or sent, no order waited, and
-- orders addressed link 0. These orders were to come at first and at last, if they are known; these
-- were the states of the reports, and this the traffic of the lines before and after, if it is
-- known. Its rounds made the reports and gave the lines their octets.
pub record RanFrom (ahead : ℕ) (tender : Tended) (left left_after : Option (List Timed))
    (before after : Stand) (given_before given : Option (List Traffic)) : Type 0 where
  pub first : SetPlace
  pub left_is : first.left ≡ left
  pub reports_are : first.reports ≡ before
  pub set : first.stood.tender ≡ tender
  pub wires : AreNewWires tender.plan.links first.wires
  pub focus : first.stood.focus ≡ OneLink 0
  pub since : AreNewCounts tender.plan.links first.stood.since
  pub stays : first.stood.ending ≡ Stays
  pub none_wait : first.waiting ≡ []
  pub last : SetPlace
  pub left_later : last.left ≡ left_after
  pub reports_later : last.reports ≡ after
  pub made :
      Made (λ bytes traffic. Ran ahead first bytes traffic last) before after given_before given
