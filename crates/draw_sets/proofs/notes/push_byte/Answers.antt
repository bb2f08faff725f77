use Rattle.draw_sets.proofs.NotedLines.{byte_more, line_more}
use Rattle.draw_sets.proofs.notes.push_byte.Goals as goal

pub returns-then-byte-eq10 : goal.returns-then-byte-eq10
returns-then-byte-eq10 c = λ all rest h.
    line_more all rest _ _ _ _ _ _ c.if-byte-eq10.true c.deref.ensures.value c.clear.ensures.items c.in_ok-push_noted.ensures h

pub returns : goal.returns
returns c = λ all rest h. byte_more all rest _ _ _ _ c.in_ok-push.ensures.items h
