use Rattle.link_group.proofs.Each.{each_in_one_place}
use Rattle.link_group.proofs.laws.each_message_stands_in_one_place.Goals as goal

pub returns : goal.returns
returns c = each_in_one_place c.steps_keep_places.ensures c.unacknowledged_messages_stay.ensures
