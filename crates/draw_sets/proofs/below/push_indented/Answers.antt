use Rattle.std.proofs.Common.{rules}
use Rattle.draw_sets.proofs.NotedLines.{indented_more, indented_whole, indented_closed}
use Rattle.draw_sets.proofs.below.push_indented.Goals as goal

pub loop-byte-preserved : goal.loop-byte-preserved
loop-byte-preserved c =
    indented_more c.loop-byte.begins _ c.args.lines.now c.loop-byte.text.items _ _ c.loop-byte.byte-index 0 c.loop-byte-test.true (search rules) c.in_ok-push_spaced.ensures
    c.loop-byte.invariant

pub returns-then-begins : goal.returns-then-begins
returns-then-begins c = indented_whole c.loop-byte.begins c.args.lines.now _ _ c.loop-byte.byte-index c.loop-byte-test.false c.if-begins.true c.loop-byte.invariant

pub returns : goal.returns
returns c =
    indented_closed c.loop-byte.begins c.args.lines.now c.loop-byte.text.items _ _ c.loop-byte.byte-index c.loop-byte-test.false c.if-begins.false
    c.in_ok-push.ensures.items c.loop-byte.invariant
