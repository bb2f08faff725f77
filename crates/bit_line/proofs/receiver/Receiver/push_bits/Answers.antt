use Rattle.std.proofs.Common.{◌+◌, ◌∙◌, ap, arith, append_assoc, ◌++◌}
use Rattle.bit_line.proofs.EventLaws as laws
use Rattle.bit_line.specs.Counting.{sixteen_of}
use Rattle.bit_line.specs.Judging.{report_of}
use Rattle.bit_line.proofs.receiver.Receiver.push_bits.Goals as goal

pub loop-taken-init : goal.loop-taken-init
loop-taken-init c = record { stands = λ h before stands. laws.at_zero c.args.octet h _ c.args.self.now stands; most = omega arith }

pub loop-taken-preserved-then-taken-lt8 : goal.loop-taken-preserved-then-taken-lt8
loop-taken-preserved-then-taken-lt8 c = record {
  stands = λ h before stands.
      laws.at_more (c.loop-taken.taken + c.take_calm-taken.result) c.args.octet h before c.loop-taken.events.items _ c.push_closed.new.events.items c.take_bit-given.new.self
      (c.in_ok-push_closed.ensures ∙ ap (λ l. l ++ report_of c.take_bit-given.result.closed c.take_bit-given.new.self.gate.content) c.in_ok-push_sixteen.ensures
      ∙ append_assoc c.loop-taken.events.items (sixteen_of c.take_bit-given.result.sixteen) (report_of c.take_bit-given.result.closed c.take_bit-given.new.self.gate.content))
      (c.take_bit-given.ensures.stands _ _
      (laws.at_few c.loop-taken.taken c.take_calm-taken.result c.args.octet h _ c.take_calm-taken.new.self (c.take_calm-taken.ensures.stands _ _ (c.loop-taken.invariant.stands h before stands))));
  most = omega (arith, c.if-taken-lt8.true);
}

pub loop-taken-preserved : goal.loop-taken-preserved
loop-taken-preserved c = record {
  stands = λ h before stands.
      laws.at_few c.loop-taken.taken c.take_calm-taken.result c.args.octet h _ c.take_calm-taken.new.self (c.take_calm-taken.ensures.stands _ _ (c.loop-taken.invariant.stands h before stands));
  most = omega (arith, c.take_calm-taken.ensures.most, c.loop-taken-test.true);
}
