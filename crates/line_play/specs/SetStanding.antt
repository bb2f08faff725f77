-- Where the messages are that a set took along a run.
use Rattle.std.specs.Prelude.{ℕ, Bool, List, ◌++◌, Option}
use Rattle.script_links.specs.resend_store_types.messages.Msu.{Msu}
use Rattle.line_filter.specs.Orders.{Timed}
use Rattle.line_filter.specs.Reporting.{Stand, ToldLine}
use Rattle.line_tending.specs.Standing.{AllStandIn, HasTaken}
use Rattle.line_tending.specs.Tended.{Tended}
use Rattle.line_play.specs.LineTraffic.{Traffic}
use Rattle.line_play.specs.SetDesks.{RanFrom}
use Rattle.line_play.specs.SetLaws.{sent_along}
use Rattle.line_play.specs.SetRounds.{SetPlace, Rounds}

-- The messages that the set took before a run, and those of the orders that were answered `ok`
-- along it, are each in one place at its end, or have left.
abbrev pub RunsStand : Type 0
RunsStand =
    (ahead : ℕ) (p q : SetPlace) (bytes : List ToldLine) (traffic : List Traffic) (goes_on : Bool)
    (run : Rounds ahead p bytes traffic goes_on q) (earlier : List Msu)
    → HasTaken p.stood.tender earlier → AllStandIn q.stood.tender (earlier ++ sent_along run)

-- the set at the end of a run from its first round on
abbrev pub set_after :
    {ahead : ℕ} {tender : Tended} {left left_after : Option (List Timed)} {before after : Stand}
    {given_before given : Option (List Traffic)}
    → RanFrom ahead tender left left_after before after given_before given → Tended
set_after ran = ran.last.stood.tender

-- the messages of the orders that were answered `ok` along it
abbrev pub taken_in :
    {ahead : ℕ} {tender : Tended} {left left_after : Option (List Timed)} {before after : Stand}
    {given_before given : Option (List Traffic)}
    → RanFrom ahead tender left left_after before after given_before given → List Msu
taken_in ran = sent_along ran.made.are.rounds
