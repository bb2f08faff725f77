use Rattle.std.proofs.Common.{◌+◌, arith}
use Rattle.line_play.proofs.SetGiven.{first_more, first_all}
use Rattle.line_play.proofs.set.given.first_links.Goals as goal

pub loop-link-preserved : goal.loop-link-preserved
loop-link-preserved c = first_more _ _ c.loop-link.link (c.loop-link.link + 1) (omega arith) c.loop-link.invariant c.in_ok-push.ensures.items

pub returns : goal.returns
returns c = first_all _ c.loop-link.link c.args.count (omega arith) c.loop-link.invariant
