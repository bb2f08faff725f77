use Rattle.link_group.specs.Lines.{ByCommand, IsCommandError}
use Rattle.line_tending.proofs.Giving.{barred_by}
use Rattle.line_tending.proofs.tended_set.TendedSet.command.Goals as goal

pub returns-in-Err-clause-given : goal.returns-in-Err-clause-given
returns-in-Err-clause-given c =
    barred_by (ByCommand c.args.command c.args.link c.args.self.now.set c.give.new.self.set)
    (IsCommandError c.args.command c.args.link c.args.self.now.set c.give.new.self.set) c.in-Err.error c.refused.result c.in-Err.ensures.err
    c.refused.ensures.no c.refused.ensures.other
