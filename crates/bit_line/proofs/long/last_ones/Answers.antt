use Rattle.std.proofs.Common.{arith}
use Rattle.bit_line.proofs.LongLaws as laws
use Rattle.bit_line.proofs.long.last_ones.Goals as goal

pub loop-i-init : goal.loop-i-init
loop-i-init c = laws.last_start c.args.len c.args.bits

pub returns-then-bits-len-eq0 : goal.returns-then-bits-len-eq0
returns-then-bits-len-eq0 c = laws.last_zero c.args.len c.args.bits c.loop-i.i c.loop-i-test.true c.if-bits-len-eq0.true c.loop-i.invariant

pub loop-i-preserved : goal.loop-i-preserved
loop-i-preserved c = laws.last_one c.args.len c.args.bits c.loop-i.i c.loop-i-test.true (omega (arith, c.if-bits-len-eq0.false)) c.loop-i.invariant

pub returns : goal.returns
returns c = laws.last_all c.args.len c.args.bits c.loop-i.i (omega (arith, c.loop-i-test.false)) c.loop-i.invariant
