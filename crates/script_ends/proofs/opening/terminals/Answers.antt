use Rattle.std.proofs.Common.{arith}
use Rattle.script_ends.proofs.Openings.{none_yet, one_more, all_made}
use Rattle.script_ends.proofs.opening.terminals.Goals as goal

pub loop-made-init : goal.loop-made-init
loop-made-init c = none_yet c.args.set.now c.args.limits c.args.head.mode _ c.new-terminals.ensures.items

pub loop-made-preserved : goal.loop-made-preserved
loop-made-preserved c =
    one_more c.args.set.now c.args.limits c.args.head.mode c.loop-made.made _ _ c.in-Ok.ensures.ok.0 c.in-Ok.ensures.ok.1 c.in-Ok.ensures.ok.2 c.loop-made.invariant

pub returns-clause-ok : goal.returns-clause-ok
returns-clause-ok c =
    all_made c.args.set.now c.args.limits c.args.head c.loop-made.made _ (omega (arith, c.loop-made.auto.made-end, c.loop-made-test.false)) c.loop-made.invariant
