use Rattle.std.proofs.Common.{arith}
use Rattle.line_play.proofs.SetOpening.{none_yet, one_more, all_made}
use Rattle.line_play.proofs.set.opening.open_terminals.Goals as goal

pub loop-made-init : goal.loop-made-init
loop-made-init c = none_yet c.args.set.now c.args.limits c.args.plan.mode _ c.new-terminals.ensures.items

pub loop-made-preserved : goal.loop-made-preserved
loop-made-preserved c =
    one_more c.args.set.now c.args.limits c.args.plan.mode c.loop-made._made _ _ c.in-Ok.ensures.ok.0 c.in-Ok.ensures.ok.1 c.in-Ok.ensures.ok.2 c.loop-made.invariant

pub returns-clause-ok : goal.returns-clause-ok
returns-clause-ok c =
    all_made c.args.set.now c.args.limits c.args.plan.mode c.loop-made._made _ _ (omega arith) c.loop-made.invariant
