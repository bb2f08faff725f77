use Rattle.line_tending.proofs.Reading.{holds_of}
use Rattle.line_tending.proofs.tended_set.TendedSet.press_started.Goals as goal

pub returns-clause-holds : goal.returns-clause-holds
returns-clause-holds c =
    holds_of c.press_busy.result c.args.link c.args.self.now c.press_out.new.self c.press_busy.new.self c.in_ok-press_out.ensures.adds
    c.in_ok-press_out.ensures.outage c.in_ok-press_out.ensures.none c.press_busy.ensures.busy c.press_busy.ensures.free
