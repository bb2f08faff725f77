use Rattle.std.proofs.lemmas.List.{drop_all}
use Rattle.draw_sets.proofs.NotedLines.{begun, turn, ended}
use Rattle.draw_sets.proofs.notes.lines_noted.Goals as goal

pub loop-byte-init : goal.loop-byte-init
loop-byte-init c = begun _ _ _ c.new-line.ensures.items c.new-text.ensures.items

pub loop-byte-preserved : goal.loop-byte-preserved
loop-byte-preserved c =
    c.in_ok-push_byte.ensures c.args.lines.now _ (turn c.args.lines.now _ _ c.loop-byte.byte-index 0 c.loop-byte-test.true c.loop-byte.invariant)

pub returns : goal.returns
returns c =
    ended c.args.lines.now _ _ _ _ _ (drop_all c.loop-byte.byte-index c.args.lines.now c.loop-byte-test.false) c.deref.ensures.value
    c.loop-byte.invariant c.in_ok-push_bytes.ensures
