use Rattle.line_tending.proofs.Giving.{starts_as}
use Rattle.line_tending.proofs.tended_set.TendedSet.begin_start.Goals as goal

pub returns-clause-starts : goal.returns-clause-starts
returns-clause-starts c =
    starts_as c.args.care c.args.another_serves c.args.link c.args.self.now c.urge.new.self c.command.new.self c.command.result c.in_ok-urge.ensures.urges
    c.in_ok-urge.ensures.rests c.command.ensures.given
