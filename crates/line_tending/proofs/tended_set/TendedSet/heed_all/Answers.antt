use Rattle.std.proofs.Common.{arith}
use Rattle.line_tending.specs.Rounds.{no_link, one_link}
use Rattle.line_tending.proofs.Doing.{each_all}
use Rattle.line_tending.proofs.tended_set.TendedSet.heed_all.Goals as goal

pub loop-link-init : goal.loop-link-init
loop-link-init c = no_link

pub loop-link-preserved : goal.loop-link-preserved
loop-link-preserved c = one_link c.loop-link.invariant c.in_ok-heed_link.ensures.adds c.in_ok-heed_link.ensures.told

pub returns : goal.returns
returns c = each_all _ _ _ c.loop-link.link c.loop-link.invariant (omega arith) (omega arith)
