use Rattle.std.proofs.Common.{◌∙◌}
use Rattle.script_ends.proofs.TermRuns.{any_told}
use Rattle.script_ends.proofs.terminals.asks_told.Goals as goal

pub returns : goal.returns
returns c = c.has_told.ensures ∙ any_told c.args.commands.now
