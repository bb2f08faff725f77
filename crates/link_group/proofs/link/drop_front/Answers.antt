use Rattle.link_group.proofs.Fronts.{one_more}
use Rattle.link_group.proofs.link.drop_front.Goals as goal

pub loop-front-preserved : goal.loop-front-preserved
loop-front-preserved c = (
  one_more c.loop-front._front c.args.messages.now.items c.loop-front.messages.items c.drop_one.new.messages.items c.loop-front.invariant.0 c.drop_one.ensures.items,
  c.drop_one.ensures.whole,
)
