use Rattle.std.specs.Prelude.{◌≡◌, ◌++◌, string_bytes}
use Rattle.std.specs.List.{flat_map}
use Rattle.line_play.specs.SetExposing.{sample_at}
use Rattle.line_play.specs.SetGiven.{first_links}
use Rattle.line_play.specs.SetSeries.{plain_series}
use Rattle.line_play.proofs.set.state.SetState.put_series.Given as goal

abbrev pub invariant-loop-link : goal.invariant-loop-link
invariant-loop-link l =
    string_bytes l.text ≡ string_bytes l.initial.text ++ flat_map (sample_at (plain_series l.series) l.self.tender) (first_links l.link)
