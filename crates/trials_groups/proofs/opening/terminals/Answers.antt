use Rattle.std.proofs.Common.{arith}
use Rattle.trials_groups.proofs.Openings.{none_yet, one_more, all_made}
use Rattle.trials_groups.proofs.opening.terminals.Goals as goal

pub loop-made-init : goal.loop-made-init
loop-made-init c = none_yet c.args.set.now c.args.mode _ c.new-terminals.ensures.items

pub loop-made-preserved : goal.loop-made-preserved
loop-made-preserved c =
    one_more c.args.set.now c.args.mode c.loop-made.made _ _ c.in-Ok.ensures.0 c.in-Ok.ensures.1 c.in-Ok.ensures.2 c.loop-made.invariant

pub returns : goal.returns
returns c =
    all_made c.args.set.now c.args.mode c.loop-made.made c.args.links _ (omega (arith, c.loop-made.auto.made-end, c.loop-made-test.false)) c.loop-made.invariant
