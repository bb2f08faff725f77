use Rattle.std.proofs.Common.{List, subst}
use Rattle.std.specs.List.{flat_map}
use Rattle.script_ends.specs.resend_store_types.measures.Measure.{Measure}
use Rattle.line_filter.specs.Reporting.{TellsLines}
use Rattle.line_play.specs.SetDoing.{stood}
use Rattle.line_play.specs.SetShowing.{count_told}
use Rattle.line_play.proofs.SetTelling.{then_told}
use Rattle.line_play.proofs.set.state.SetState.tell_measures.Goals as goal

pub returns : goal.returns
returns g c =
    then_told c.tell_aborted.result _ _ _ _ _
    (subst (λ (ms : List Measure). TellsLines (g.P.Reports.stand c.args.reports.now) (g.P.Reports.stand c.tell_counts.new.reports) (flat_map (count_told (stood c.args.self.now) c.args.link) ms))
    c.all_measures-all.ensures c.in_ok-tell_counts.ensures)
    c.tell_aborted.ensures
