-- The run of a link set on lines.
use Rattle.std.specs.Prelude.{ℕ, List, Option}
use Rattle.line_filter.specs.Orders.{Timed}
use Rattle.line_filter.specs.Reporting.{Stand}
use Rattle.line_streams.specs.Known.{ComeFrom, left_of}
use Rattle.line_streams.specs.declared.opening.OrderStream.{OrderStream}
use Rattle.line_play.specs.LineTraffic.{Traffic}
use Rattle.line_play.specs.SetDesks.{RanFrom}
use Rattle.line_play.specs.SetOpening.{IsNewTenderOver}
use Rattle.line_play.specs.SetStanding.{set_after, taken_in}
use Rattle.line_play.specs.Standing.{AllStandIn}
use Rattle.line_play.specs.declared.set.opening.SetPlan.{SetPlan}
use Rattle.line_play.specs.Tended.{Tended}
use Rattle.line_play.specs.declared.link.opening.ChosenLimits.{ChosenLimits}
use Rattle.mtp2_words.specs.declared.set_ends.SetEnd.{SetEnd}

-- the limits of forced retransmission that the words of `set` choose
abbrev pub chosen_of : SetEnd → ChosenLimits
chosen_of end = record { messages = end.messages; octets = end.octets }

-- the plan by which a link set is opened, from the words of `set`
abbrev pub plan_of : ℕ → SetEnd → SetPlan
plan_of links end = record {
  mode = end.mode;
  limits = chosen_of end;
  ends = record { own = end.own; peer = end.peer; network = end.network };
  links = links;
  tests = end.tests;
}

-- A link set ran with these orders to come at first, and from this state of the reports.
pub record RanWhole (ahead : ℕ) (tender : Tended) (left : Option (List Timed)) (before : Stand) :
    Type 0 where
  pub left_after : Option (List Timed)
  pub after : Stand
  pub given_before : Option (List Traffic)
  pub given : Option (List Traffic)
  pub ran : RanFrom ahead tender left left_after before after given_before given

-- a link set ran on orders from the source that the words of `set` name
pub record RanOn (end : SetEnd) (tender : Tended) : Type 0 where
  pub orders : OrderStream
  pub come : ComeFrom end.orders orders
  pub before : Stand
  pub ran : RanWhole end.ahead tender (left_of orders) before

-- A new link set, as planned, ran with the processes of these bytes. It took exactly the messages
-- of the orders that were answered `ok`. At its end each of them is in one place, or has left,
-- acknowledged or unsure: in order for each selection, and the unsure ones counted.
pub record RanOver (plan : SetPlan) (end : SetEnd) (bytes : List ℕ) : Type 0 where
  pub tender : Tended
  pub new : IsNewTenderOver plan tender bytes
  pub ran : RanOn end tender
  pub stands : AllStandIn (set_after ran.ran.ran) (taken_in ran.ran.ran)
