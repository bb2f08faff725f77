use Rattle.line_tending.proofs.Reading.{not_started, started_held}
use Rattle.line_tending.proofs.tended_set.TendedSet.start_held.Goals as goal

pub returns-then-not-branch-clause-starts : goal.returns-then-not-branch-clause-starts
returns-then-not-branch-clause-starts c =
    not_started c.args.care c.args.another_serves c.args.link c.args.self.now c.begin_start.new.self _ c.if-not-branch.true c.in_ok-begin_start.ensures.starts

pub returns-clause-starts : goal.returns-clause-starts
returns-clause-starts c =
    started_held c.args.care c.args.another_serves c.args.link c.args.self.now c.begin_start.new.self c.press_started.new.self _ c.if-not-branch.false
    c.in_ok-begin_start.ensures.starts c.in_ok-begin_start.ensures.adds c.in_ok-press_started.ensures.holds
