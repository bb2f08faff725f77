use Rattle.std.proofs.Common.{rules}
use Rattle.link_group.proofs.Passing.{none_here, found_here, none_left}
use Rattle.link_group.proofs.ticking.tick_refusal.Goals as goal

pub returns-in-Some : goal.returns-in-Some
returns-in-Some c = found_here c.args.ticks c.args.links.now c.loop-link.link-index c.link-item.result c.in-Some.refusal _ (search rules) c.link-item.is (search rules) c.loop-link.invariant

pub loop-link-preserved : goal.loop-link-preserved
loop-link-preserved c = none_here c.args.ticks c.args.links.now c.loop-link.link-index c.link-item.result _ (search rules) c.link-item.is (search rules) c.loop-link.invariant

pub returns : goal.returns
returns c = none_left c.args.ticks c.args.links.now c.loop-link.link-index _ (search rules) c.loop-link.invariant
