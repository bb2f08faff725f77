use Rattle.std.proofs.Common.{rules}
use Rattle.link_group.specs.OneLink.{held}
use Rattle.link_group.proofs.Opening.{held_here, held_none}
use Rattle.link_group.proofs.open.holds.Goals as goal

pub returns-then-is_on : goal.returns-then-is_on
returns-then-is_on c = held_here c.args.selection c.args.link.now c.loop-place.place c.is_on.result (search rules) c.is_on.ensures

pub loop-place-preserved : goal.loop-place-preserved
loop-place-preserved c = held_none c.args.link.now.points c.args.selection (held c.args.link.now) c.loop-place.place c.is_on.result (search rules) c.is_on.ensures c.loop-place.invariant
