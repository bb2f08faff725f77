use Rattle.std.proofs.Common.{length, refl, ap, arith}
use Rattle.bit_line.proofs.FrontLaws as laws
use Rattle.bit_line.proofs.PassLaws.{late_fits}
use Rattle.bit_line.proofs.data.Data.refill.Goals as goal

pub loop-left-init : goal.loop-left-init
loop-left-init c = record {
  bits = laws.refill_start c.clear.new.self.items c.args.len c.args.bits c.clear.ensures;
  fits = c.requires.fits;
  room = omega (arith, ap length c.clear.ensures);
}

pub loop-left-preserved : goal.loop-left-preserved
loop-left-preserved c = record {
  bits = laws.refill_more c.loop-left.self.octets.items _ c.loop-left.left c.loop-left.rest _ c.loop-left-test.true c.push.ensures.items c.loop-left.invariant.bits;
  fits = late_fits c.loop-left.rest c.loop-left.left 8 c.loop-left-test.true c.loop-left.invariant.fits;
  room = omega (arith, c.push.ensures.len, c.loop-left.invariant.room, c.loop-left-test.true);
}

pub returns : goal.returns
returns c = laws.refilled _ c.args.len c.args.bits c.loop-left.left c.loop-left.rest c.requires.few refl refl refl (omega (arith, c.loop-left-test.false)) c.loop-left.invariant.fits c.loop-left.invariant.bits
