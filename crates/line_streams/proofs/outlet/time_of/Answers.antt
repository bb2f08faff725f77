use Rattle.line_streams.proofs.Times.{begins_at, none_more}
use Rattle.line_streams.proofs.outlet.time_of.Goals as goal

pub returns-then-line-place-eq32 : goal.returns-then-line-place-eq32
returns-then-line-place-eq32 c = begins_at c.args.line.now _ c.loop-place-test.true c.loop-place.invariant c.if-line-place-eq32.true

pub loop-place-preserved : goal.loop-place-preserved
loop-place-preserved c = none_more c.args.line.now _ c.loop-place-test.true c.loop-place.invariant c.if-line-place-eq32.false
