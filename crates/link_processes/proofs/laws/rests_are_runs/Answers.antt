use Rattle.link_processes.proofs.Runs.{rest_law}
use Rattle.link_processes.proofs.laws.rests_are_runs.Goals as goal

pub returns : goal.returns
returns c = rest_law c.turns_are_of_the_least.ensures c.failed_tries_change_nothing.ensures
