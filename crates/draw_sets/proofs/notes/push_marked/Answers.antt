use Rattle.draw_sets.proofs.NotedLines.{none_added}
use Rattle.draw_sets.proofs.notes.push_marked.Goals as goal

pub returns-in-None : goal.returns-in-None
returns-in-None c = none_added _
