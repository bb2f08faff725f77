use Rattle.draw_sets.proofs.NotedLines.{none_added, more_added}
use Rattle.draw_sets.proofs.notes.push_connections.Goals as goal

pub loop-index-init : goal.loop-index-init
loop-index-init c = none_added _

pub loop-index-preserved : goal.loop-index-preserved
loop-index-preserved c = more_added _ _ _ c.loop-index.invariant c.in_ok-push_marked.ensures
