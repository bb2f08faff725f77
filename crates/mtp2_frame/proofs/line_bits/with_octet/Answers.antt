use Rattle.std.proofs.Common.{arith}
use Rattle.mtp2_frame.proofs.LineCounts.{counts_none, counts_bit}
use Rattle.mtp2_frame.proofs.line_bits.with_octet.Goals as goal

pub loop-place-init : goal.loop-place-init
loop-place-init c = record {
  counts = λ sent held. counts_none c.args.octet sent c.args.line held;
  count = omega arith;
  ones = omega arith;
}

pub loop-place-preserved : goal.loop-place-preserved
loop-place-preserved c = record {
  counts = λ sent held. counts_bit c.loop-place.place c.args.octet sent _ (c.with_bit-counted.ensures.counts _ (c.loop-place.invariant.counts sent held));
  count = omega (arith, c.with_bit-counted.ensures.count, c.loop-place.invariant.count);
  ones = c.with_bit-counted.ensures.ones;
}
