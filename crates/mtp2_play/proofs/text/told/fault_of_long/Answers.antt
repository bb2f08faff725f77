use Rattle.script_check.proofs.Long.{unlexed}
use Rattle.mtp2_play.proofs.text.told.fault_of_long.Goals as goal

pub returns : goal.returns
returns c bytes long = unlexed bytes c.args.kept.now _ long c.line_at_limit.ensures
