use Rattle.draw_sets.proofs.NotedLines.{below}
use Rattle.draw_sets.proofs.below.push_below.Goals as goal

pub returns : goal.returns
returns c = below c.args.text.now.items c.args.line.now c.args.notes.now _ _ _ c.in_ok-push_bytes.ensures c.in_ok-push.ensures.items c.in_ok-push_indented.ensures
