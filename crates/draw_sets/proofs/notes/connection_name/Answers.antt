use Rattle.draw_sets.proofs.NotedLines.{none_in_line}
use Rattle.draw_sets.proofs.notes.connection_name.Goals as goal

pub returns : goal.returns
returns c = c.in_ok-push_name-3.ensures (c.in_ok-push_name-2.ensures (c.in_ok-push_name.ensures (none_in_line _ c.new-name.ensures.items)))
