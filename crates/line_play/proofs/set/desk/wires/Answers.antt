use Rattle.std.proofs.Common.{arith}
use Rattle.line_play.proofs.SetDesks.{no_wires, one_wire, all_wires}
use Rattle.line_play.proofs.set.desk.wires.Goals as goal

pub loop-link-init : goal.loop-link-init
loop-link-init c = no_wires _ c.in_ok-wires.ensures.items

pub loop-link-preserved : goal.loop-link-preserved
loop-link-preserved c = one_wire _ _ _ c.new.result c.new.ensures c.in_ok-push.ensures.items c.loop-link.invariant

pub returns : goal.returns
returns c = all_wires _ _ _ (omega arith) c.loop-link.invariant
