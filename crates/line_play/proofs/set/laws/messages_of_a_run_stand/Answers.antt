use Rattle.line_play.proofs.SetStanding.{runs_stand}
use Rattle.line_play.proofs.set.laws.messages_of_a_run_stand.Goals as goal

pub returns : goal.returns
returns c = runs_stand c.messages_taken_in_a_life_stand.ensures
