use Rattle.std.specs.Prelude.{◌++◌}
use Rattle.line_play.specs.SetExposing.{series_lines}
use Rattle.line_play.specs.SetSeries.{services, held, failures, traffic, errors, repetitions, outages}
use Rattle.line_play.proofs.SetExposing.{first_series, then_series, last_series}
use Rattle.line_play.proofs.set.state.SetState.put_links.Goals as goal

pub returns : goal.returns
returns c =
    let f = series_lines c.args.self.now.tender in
    last_series c.put_all-7.result f _ _ _ (((((services ++ held) ++ failures) ++ traffic) ++ errors) ++ repetitions) outages _ c.outages.ensures
    (then_series f _ _ _ ((((services ++ held) ++ failures) ++ traffic) ++ errors) repetitions _ c.repetitions.ensures
    (then_series f _ _ _ (((services ++ held) ++ failures) ++ traffic) errors _ c.errors.ensures
    (then_series f _ _ _ ((services ++ held) ++ failures) traffic _ c.traffic.ensures
    (then_series f _ _ _ (services ++ held) failures _ c.failures.ensures
    (then_series f _ _ _ services held _ c.held.ensures (first_series f _ _ services _ c.services.ensures c.in_ok-put_all.ensures) c.in_ok-put_all-2.ensures) c.in_ok-put_all-3.ensures)
    c.in_ok-put_all-4.ensures) c.in_ok-put_all-5.ensures) c.in_ok-put_all-6.ensures) c.put_all-7.ensures
