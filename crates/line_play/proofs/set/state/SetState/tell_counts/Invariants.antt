use Rattle.std.specs.Prelude.{take}
use Rattle.std.specs.List.{flat_map}
use Rattle.line_filter.specs.Reporting.{TellsLines}
use Rattle.line_play.specs.SetDoing.{stood}
use Rattle.line_play.specs.SetShowing.{count_told}
use Rattle.line_play.proofs.set.state.SetState.tell_counts.Given as goal

abbrev pub invariant-loop-measure : goal.invariant-loop-measure
invariant-loop-measure g l =
    TellsLines (g.P.Reports.stand l.initial.reports) (g.P.Reports.stand l.reports) (flat_map (count_told (stood l.self) l.link) (take l.measure-index l.all))
