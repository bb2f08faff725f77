use Rattle.std.proofs.Common.{arith}
use Rattle.line_play.proofs.SetDesks.{no_counts, one_count, all_counts}
use Rattle.line_play.proofs.set.desk.counts.Goals as goal

pub loop-link-init : goal.loop-link-init
loop-link-init c = no_counts _ c.in_ok-counts.ensures.items

pub loop-link-preserved : goal.loop-link-preserved
loop-link-preserved c = one_count _ _ _ c.new.result c.new.ensures c.in_ok-push.ensures.items c.loop-link.invariant

pub returns : goal.returns
returns c = all_counts _ _ _ (omega arith) c.loop-link.invariant
