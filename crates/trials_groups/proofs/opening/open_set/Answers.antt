use Rattle.trials_groups.proofs.Openings.{all_unused}
use Rattle.trials_groups.proofs.opening.open_set.Goals as goal

pub new-requires-clause-unused : goal.new-requires-clause-unused
new-requires-clause-unused c = all_unused c.args.set.now c.args.mode c.args.links _ c.in-Ok.ensures
