use Rattle.script_play.proofs.OutGoing.{printed_one}
use Rattle.script_play.proofs.captured_groups.next_on.Goals as goal

pub returns-clause-printed : goal.returns-clause-printed
returns-clause-printed g c = printed_one _ _ _ _ _ c.in_ok-line.line.items c.in_ok-print.ensures.last c.in_ok-print.ensures.written c.in_ok-line.ensures
