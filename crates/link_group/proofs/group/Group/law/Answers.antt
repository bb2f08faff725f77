use Rattle.std.proofs.Common.{subst}
use Rattle.link_group.proofs.Each.{accounted}
use Rattle.link_group.proofs.Live.{Live}
use Rattle.link_group.proofs.group.Group.law.Goals as goal

pub returns : goal.returns
returns c =
    accounted c.each_message_stands_in_one_place.ensures c.unsure_messages_are_counted.ensures c.args.self.now (subst Live c.self.view_is c.self.invariant.3)
