use Rattle.draw_sets.proofs.NotedLines.{more_in_line}
use Rattle.draw_sets.proofs.below.push_in_line.Goals as goal

pub returns-in_ok-push : goal.returns-in_ok-push
returns-in_ok-push c = more_in_line _ _ _ c.in_ok-push.ensures.items c.if-byte-ne10.true
