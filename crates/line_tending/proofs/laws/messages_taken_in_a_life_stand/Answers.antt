use Rattle.line_tending.proofs.Standing.{taken_stand}
use Rattle.line_tending.proofs.laws.messages_taken_in_a_life_stand.Goals as goal

pub returns : goal.returns
returns c = taken_stand c.each_message_stands_in_one_place.ensures c.unsure_messages_are_counted.ensures
