use Rattle.draw_sets.proofs.below.push_name.Goals as goal

pub loop-byte-preserved : goal.loop-byte-preserved
loop-byte-preserved c = λ h. c.in_ok-push_in_line.ensures (c.loop-byte.invariant h)
