use Rattle.std.proofs.Common.{map, ap, rules, ◌∙◌}
use Rattle.std.specs.Prelude.{string_bytes}
use Rattle.line_play.specs.Measured.{measured_line}
use Rattle.line_play.proofs.Measures.{lines_more}
use Rattle.line_play.proofs.link.measured.lines_of.Goals as goal

pub loop-measure-preserved : goal.loop-measure-preserved
loop-measure-preserved c =
    ap (map string_bytes) c.in_ok-push.ensures.items
    ∙ lines_more (measured_line c.args.measures.now) c.args.all.now c.loop-measure.measure-index _ c.loop-measure.lines.items _
    c.loop-measure-test.true (search rules) c.in_ok-line.ensures c.loop-measure.invariant
