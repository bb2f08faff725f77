use Rattle.link_whole.proofs.Events.{events_law}
use Rattle.link_whole.proofs.laws.events_run_as_read.Goals as goal

pub returns : goal.returns
returns c = events_law c.schedules_run_as_read.ensures c.set_law.ensures c.keeps_law.ensures c.set_law-2.ensures c.never_stuck_law.ensures
