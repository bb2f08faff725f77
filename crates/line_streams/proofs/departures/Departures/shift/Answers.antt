use Rattle.std.proofs.Common.{refl}
use Rattle.line_streams.proofs.Ends.{moves_none, moves_then, moves_first, moves_far, waits_less, is_none_so}
use Rattle.line_streams.proofs.departures.Departures.shift.Goals as goal

pub loop-count-init : goal.loop-count-init
loop-count-init c = moves_none c.args.self.now.outlet c.args.self.now.outlet refl refl refl

pub loop-count-preserved : goal.loop-count-preserved
loop-count-preserved c =
    moves_then c.args.self.now.outlet c.loop-count.self.outlet c.send_first.new.self c.loop-count.invariant (moves_first _ _ _ c.in-Some.ensures.some)

pub loop-count-smaller : goal.loop-count-smaller
loop-count-smaller c = waits_less _ _ _ c.in-Some.ensures.some

pub returns : goal.returns
returns c =
    moves_far c.args.self.now.outlet c.loop-count.self.outlet c.send_first.new.self c.loop-count.invariant
    (c.send_first.ensures.none (is_none_so c.send_first.result c.in_default.not-Some))
