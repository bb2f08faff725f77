use Rattle.link_group.specs.Doing.{Listened}
use Rattle.script_ends.proofs.LineAnswers.{stays_there}
use Rattle.script_ends.proofs.lines.take_part.Goals as goal

pub drop_reports-requires : goal.drop_reports-requires
drop_reports-requires c = stays_there (Listened c.args.octets.now c.in-Ok.taken) c.args.link _ _ c.in-Ok.ensures.ok
