use Rattle.std.proofs.Common.{rules, refl}
use Rattle.mtp2_play.specs.Measured.{line_text}
use Rattle.mtp2_play.proofs.Written.{more_lines}
use Rattle.mtp2_play.proofs.line.measuring.write_lines.Goals as goal

pub loop-line-preserved : goal.loop-line-preserved
loop-line-preserved g c =
    more_lines line_text c.args.lines.now c.loop-line.line-index c.line-item.result
    (line_text c.line-item.result) _ (g.W.Write.contents c.loop-line.writer) _
    (search rules) (search rules) refl (search rules) (search rules)
