use Rattle.script_ends.proofs.Openings.{all_unused}
use Rattle.script_ends.proofs.opening.open_set.Goals as goal

pub new-requires-clause-unused : goal.new-requires-clause-unused
new-requires-clause-unused c = all_unused c.args.set.now c.args.limits c.args.head _ c.in-Ok.ensures.ok
