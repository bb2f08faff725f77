use Rattle.std.proofs.Common.{◌+◌, ap, arith, length}
use Rattle.su_octets.specs.Bits.{low_bits}
use Rattle.bit_line.proofs.EventLaws as laws
use Rattle.bit_line.proofs.PaceLaws.{decode_by, closes_by}
use Rattle.bit_line.proofs.receiver.Receiver.feed_byte.Goals as goal
use Rattle.su_octets.proofs.BitLists.{length-low_bits}

pub loop-taken-init : goal.loop-taken-init
loop-taken-init c = record {
  stands = λ h events stands. laws.at_none c.args.octet h events c.new-events.result.items c.args.self.now c.new-events.ensures stands;
  room = omega (arith, ap length c.new-events.ensures);
  most = omega arith;
}

pub loop-taken-preserved-then-taken-lt8 : goal.loop-taken-preserved-then-taken-lt8
loop-taken-preserved-then-taken-lt8 c = record {
  stands = λ h events stands.
      laws.at_more (c.loop-taken.taken + c.take_calm-taken.result) c.args.octet h events c.loop-taken.events.items _ c.put.new.events.items c.take_bit-given.new.self c.put.ensures.items
      (c.take_bit-given.ensures.stands _ _
      (laws.at_few c.loop-taken.taken c.take_calm-taken.result c.args.octet h _ c.take_calm-taken.new.self (c.take_calm-taken.ensures.stands _ _ (c.loop-taken.invariant.stands h events stands))));
  room = omega (arith, c.put.ensures.len, c.take_bit-given.ensures.gate_pace, c.take_bit-given.ensures.count_pace, c.take_calm-taken.ensures.gate_pace, c.take_calm-taken.ensures.count_pace, c.loop-taken.invariant.room);
  most = omega (arith, c.if-taken-lt8.true);
}

pub loop-taken-preserved : goal.loop-taken-preserved
loop-taken-preserved c = record {
  stands = λ h events stands.
      laws.at_few c.loop-taken.taken c.take_calm-taken.result c.args.octet h _ c.take_calm-taken.new.self (c.take_calm-taken.ensures.stands _ _ (c.loop-taken.invariant.stands h events stands));
  room = omega (arith, c.take_calm-taken.ensures.gate_pace, c.take_calm-taken.ensures.count_pace, c.loop-taken.invariant.room);
  most = omega (arith, c.take_calm-taken.ensures.most, c.loop-taken-test.true);
}

pub returns-clause-stands : goal.returns-clause-stands
returns-clause-stands c bits =
    laws.stands_by bits _ c.loop-taken.events.items c.args.self.now c.loop-taken.self
    (λ h events stands. laws.at_end c.loop-taken.taken c.args.octet h _ c.loop-taken.self (omega (arith, c.loop-taken.invariant.most, c.loop-taken-test.false)) (c.loop-taken.invariant.stands h events stands))

pub returns-clause-events : goal.returns-clause-events
returns-clause-events c bits events =
    laws.events_by bits _ c.loop-taken.events.items events c.args.self.now c.loop-taken.self
    (λ h es stands. laws.at_end c.loop-taken.taken c.args.octet h _ c.loop-taken.self (omega (arith, c.loop-taken.invariant.most, c.loop-taken-test.false)) (c.loop-taken.invariant.stands h es stands))

pub returns-clause-decode : goal.returns-clause-decode
returns-clause-decode c bits =
    decode_by bits (low_bits 8 c.args.octet) c.loop-taken.events.items c.args.self.now c.loop-taken.self
    (λ h es stands. laws.at_end c.loop-taken.taken c.args.octet h _ c.loop-taken.self (omega (arith, c.loop-taken.invariant.most, c.loop-taken-test.false)) (c.loop-taken.invariant.stands h es stands))

pub returns-clause-one : goal.returns-clause-one
returns-clause-one c bits stands =
    omega (
      arith,
      length-low_bits 8 c.args.octet,
      closes_by bits (low_bits 8 c.args.octet) c.loop-taken.events.items c.args.self.now c.loop-taken.self
          (λ h es held. laws.at_end c.loop-taken.taken c.args.octet h _ c.loop-taken.self (omega (arith, c.loop-taken.invariant.most, c.loop-taken-test.false)) (c.loop-taken.invariant.stands h es held)) stands,
    )
