use Rattle.script_ends.proofs.ShownAnswers.{entries_first, entries_more}
use Rattle.script_ends.proofs.shown.table.Goals as goal

pub loop-before-init : goal.loop-before-init
loop-before-init c = entries_first c.args.group.now.table _ c.in_ok-text.ensures

pub loop-before-preserved : goal.loop-before-preserved
loop-before-preserved c = entries_more c.args.group.now.table c.loop-before.before _ _ c.loop-before.invariant c.in_ok-push_entry.ensures
