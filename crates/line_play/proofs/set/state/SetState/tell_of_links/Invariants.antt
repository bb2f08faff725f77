use Rattle.std.specs.Prelude.{take}
use Rattle.line_filter.specs.Reporting.{TellsLines}
use Rattle.line_play.specs.SetDoing.{stood}
use Rattle.line_play.specs.SetOrders.{plain_set_order}
use Rattle.line_play.specs.SetShowing.{shown_each}
use Rattle.line_play.proofs.set.state.SetState.tell_of_links.Given as goal

abbrev pub invariant-loop-link : goal.invariant-loop-link
invariant-loop-link g l =
    TellsLines (g.P.Reports.stand l.initial.reports) (g.P.Reports.stand l.reports) (shown_each (plain_set_order l.order) (stood l.self) (take l.link-index l.links))
