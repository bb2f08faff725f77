use Rattle.std.specs.Prelude.{◌≡◌, ◌++◌, map, take, string_bytes}
use Rattle.std.specs.List.{flat_map}
use Rattle.line_play.specs.SetExposing.{series_lines}
use Rattle.line_play.specs.SetSeries.{plain_series}
use Rattle.line_play.proofs.set.state.SetState.put_all.Given as goal

abbrev pub invariant-loop-series : goal.invariant-loop-series
invariant-loop-series l =
    string_bytes l.text ≡ string_bytes l.initial.text ++ flat_map (series_lines l.self.tender) (map plain_series (take l.series-index l.all))
