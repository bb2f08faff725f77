use Rattle.line_filter.specs.Reporting.{TellsLines}
use Rattle.line_play.specs.SetDoing.{stood}
use Rattle.line_play.specs.SetShowing.{shown_held}
use Rattle.line_play.proofs.set.state.SetState.tell_all_held.Given as goal

abbrev pub invariant-loop-link : goal.invariant-loop-link
invariant-loop-link g l = TellsLines (g.P.Reports.stand l.initial.reports) (g.P.Reports.stand l.reports) (shown_held (stood l.self) l.link)
