use Rattle.script_check.proofs.Long.{unlexed}
use Rattle.script_check.proofs.sets.too_long.Goals as goal

pub returns : goal.returns
returns c bytes long = unlexed bytes c.args.kept.now _ long c.line_at_limit.ensures
