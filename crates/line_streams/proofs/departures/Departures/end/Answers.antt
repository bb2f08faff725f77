use Rattle.line_streams.proofs.Ends.{ends_on}
use Rattle.line_streams.proofs.departures.Departures.end.Goals as goal

pub loop-wait-preserved : goal.loop-wait-preserved
loop-wait-preserved g c =
    ends_on c.args.now c.args.self.now.outlet _ c.has_failed.new.self.outlet _ c.has_failed.ensures.sent c.has_failed.ensures.backlog c.has_failed.ensures.lost
    c.loop-wait.invariant c.in_ok-tell_lost-2.ensures
