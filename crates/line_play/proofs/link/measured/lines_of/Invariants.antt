-- The lines are those of the measurements read so far.
use Rattle.std.specs.Prelude.{◌≡◌, map, take, string_bytes}
use Rattle.line_play.specs.Measured.{measured_line}
use Rattle.line_play.proofs.link.measured.lines_of.Given as goal

abbrev pub invariant-loop-measure : goal.invariant-loop-measure
invariant-loop-measure l =
    map string_bytes l.lines.items ≡ map (measured_line l.measures) (take l.measure-index l.all)
