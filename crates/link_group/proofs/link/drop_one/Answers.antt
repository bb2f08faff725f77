use Rattle.link_group.proofs.Turning.{whole-rest}
use Rattle.link_group.proofs.link.drop_one.Goals as goal

pub returns-in-Some-clause-whole : goal.returns-in-Some-clause-whole
returns-in-Some-clause-whole c = whole-rest c.args.messages.now.items c.pop_front.new.self.items c.in-Some._first c.in-Some.ensures.items c.requires
