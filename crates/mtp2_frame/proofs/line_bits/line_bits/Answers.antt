use Rattle.std.proofs.Common.{arith}
use Rattle.mtp2_frame.proofs.LineCounts.{counts_empty, counts_octet}
use Rattle.mtp2_frame.proofs.line_bits.line_bits.Goals as goal

pub loop-octet-init : goal.loop-octet-init
loop-octet-init c = record { counts = counts_empty; count = omega arith; ones = omega arith }

pub loop-octet-preserved : goal.loop-octet-preserved
loop-octet-preserved c = record {
  counts = counts_octet c.loop-octet.octet-index c.args.octets.now c.with_octet-line.result (omega arith) (c.with_octet-line.ensures.counts _ c.loop-octet.invariant.counts);
  count = omega (arith, c.with_octet-line.ensures.count, c.loop-octet.invariant.count);
  ones = c.with_octet-line.ensures.ones;
}
