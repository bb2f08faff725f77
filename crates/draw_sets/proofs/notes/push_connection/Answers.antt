use Rattle.draw_sets.proofs.NotedLines.{one_added, same_in_line}
use Rattle.draw_sets.proofs.notes.push_connection.Goals as goal

pub returns : goal.returns
returns c =
    one_added c.args.text.now.items _ _ _ c.in_ok-push_bytes.ensures (same_in_line _ _ c.deref-3.ensures.value c.in_ok-name.ensures) c.in_ok-push_below.ensures
