-- What holds of each run of a new link set, from its first round to its last.
use Rattle.std.specs.Prelude.{◌≡◌, ℕ, List, ◌++◌, map, Option, Some}
use Rattle.std.specs.List.{flat_map}
use Rattle.script_links.specs.resend_store_types.messages.Msu.{Msu}
use Rattle.line_filter.specs.Orders.{Timed}
use Rattle.line_filter.specs.Reporting.{ToldLine, Stand}
use Rattle.line_tending.specs.Standing.{AllStandIn, HasTaken}
use Rattle.line_tending.specs.Tended.{Tended}
use Rattle.line_play.specs.SetAnswers.{AreRead, AreAnswered}
use Rattle.line_play.specs.SetGiven.{given_in}
use Rattle.line_play.specs.SetLaws.{InOrder, octets_of, octets_said, of_selection}
use Rattle.line_play.specs.SetQueues.{Waited}
use Rattle.line_play.specs.SetReported.{AreReported}

-- the messages that orders send, in order
abbrev pub sends_in : List Timed → List (List ℕ)
sends_in read = flat_map (λ (o : Timed). octets_said (given_in o.text).said) read

-- Orders were read: the first of those that were left, if it is known which. Each was answered
-- once, in time and with its tag, or waits. The messages taken of each selection are in the order
-- of their orders; exactly these, and those that the set took before the run, are each in one place
-- or have left. Each message for level 3 that links delivered was reported, in order, or its line
-- waits.
pub record IsPromised (tender : Tended) (left left_after : Option (List Timed))
    (before after : Stand) : Type 0 where
  pub last : Tended
  pub read : List Timed
  pub took : List Msu
  pub lines : List ToldLine
  pub waiting : List Waited
  pub orders : (known : List Timed) → left ≡ Some known → AreRead known read left_after
  pub answered : AreAnswered read took lines last.ticks waiting
  pub in_order :
      (s : ℕ) → InOrder (of_selection s (map octets_of took)) (of_selection s (sends_in read))
  pub stand :
      (earlier : List Msu) → HasTaken tender earlier → AllStandIn last (earlier ++ took)
  pub reported : AreReported tender last took before after lines
