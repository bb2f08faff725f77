-- The messages that a set took along a run are each in one place, or have left.
use Rattle.std.proofs.Common.{ℕ, List, [], Option, sym, subst}
use Rattle.line_filter.specs.Orders.{Timed}
use Rattle.line_filter.specs.Reporting.{Stand}
use Rattle.link_group.specs.New.{new_set}
use Rattle.link_group.specs.Reached.{opens}
use Rattle.line_tending.specs.Calling.{Brought}
use Rattle.line_tending.specs.Lives.{Lived}
use Rattle.line_tending.specs.Standing.{AllStandIn, HasTaken, TakenStand}
use Rattle.line_tending.specs.Tended.{Tended}
use Rattle.line_play.specs.LineTraffic.{Traffic}
use Rattle.line_play.specs.SetDesks.{Ran, RanFrom}
use Rattle.line_play.specs.SetLaws.{sent_along, told_along}
use Rattle.line_play.specs.SetOpening.{IsNewTenderOver}
use Rattle.line_play.specs.SetStanding.{RunsStand, set_after, taken_in}
use Rattle.line_play.specs.declared.set.opening.SetPlan.{SetPlan}
use Rattle.line_play.proofs.SetLaws.{lived_along}
use Rattle.line_play.proofs.SetOpening.{all_unused}

pub runs_stand : TakenStand → RunsStand
runs_stand law ahead p q bytes traffic goes_on run earlier brought =
    let lived : Lived p.stood.tender (sent_along run) (told_along run) q.stood.tender = lived_along ahead p q bytes traffic goes_on run in
    law p.stood.tender q.stood.tender earlier (sent_along run) lived.handed (told_along run) brought lived.lives

-- a new link set took no message
none_taken : (plan : SetPlan) (t : Tended) (bytes : List ℕ) → IsNewTenderOver plan t bytes → HasTaken t []
none_taken plan t bytes new =
    let over = new.over in
    let first : Brought (new_set plan.ends.own plan.ends.peer over.terminals) [] =
    record { gone = []; reached = opens plan.ends.own plan.ends.peer over.terminals (all_unused new.found.set new.limits plan.mode plan.links over.terminals over.new) } in
    over.tended.calls.brought [] first

pub new_stands : RunsStand → (plan : SetPlan) (bytes : List ℕ) (ahead : ℕ) (tender : Tended) (left left_after : Option (List Timed)) (before after : Stand) (given_before given : Option (List Traffic))
    → IsNewTenderOver plan tender bytes → (ran : RanFrom ahead tender left left_after before after given_before given) → AllStandIn (set_after ran) (taken_in ran)
new_stands law plan bytes ahead tender left left_after before after given_before given new ran =
    let are : Ran ahead ran.first ran.made.bytes ran.made.traffic ran.last = ran.made.are in
    law ahead ran.first ran.last ran.made.bytes ran.made.traffic are.goes_on are.rounds [] (subst (λ (t : Tended). HasTaken t []) (sym ran.set) (none_taken plan tender bytes new))
