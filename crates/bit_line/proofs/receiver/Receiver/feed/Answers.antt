use Rattle.std.proofs.Common.{arith}
use Rattle.su_octets.specs.Bits.{bits_of}
use Rattle.bit_line.proofs.EventLaws as laws
use Rattle.bit_line.proofs.UntilLaws.{at_run, tail_length}
use Rattle.bit_line.proofs.PaceLaws.{decode_by}
use Rattle.bit_line.proofs.receiver.Receiver.feed.Goals as goal

pub loop-taken-init : goal.loop-taken-init
loop-taken-init c = record {
  within = omega arith;
  stands = λ h before stands. laws.at_start h before c.new-events.result.items c.copy-next.result c.new-events.ensures.items stands;
}

pub loop-taken-preserved : goal.loop-taken-preserved
loop-taken-preserved c = record {
  within = omega (arith, c.in_ok-taken.ensures.most, tail_length c.loop-taken.taken c.args.octets.now, c.loop-taken.invariant.within);
  stands = λ h before stands.
      at_run c.loop-taken.taken c.in_ok-taken.field-0 c.args.octets.now h _ c.push_next.new.self
      (c.in_ok-taken.ensures.stands _ before (c.loop-taken.invariant.stands h before stands));
}

pub returns-clause-stands : goal.returns-clause-stands
returns-clause-stands c bits =
    laws.stands_by bits _ c.loop-taken.events.items c.args.self.now c.loop-taken.next
    (λ h events stands. laws.at_whole c.loop-taken.taken c.args.octets.now h _ c.loop-taken.next (omega (arith, c.loop-taken-test.false)) (c.loop-taken.invariant.stands h events (c.copy-next.ensures h events stands)))

pub returns-clause-events : goal.returns-clause-events
returns-clause-events c bits events =
    laws.events_by bits _ c.loop-taken.events.items events c.args.self.now c.loop-taken.next
    (λ h es stands. laws.at_whole c.loop-taken.taken c.args.octets.now h _ c.loop-taken.next (omega (arith, c.loop-taken-test.false)) (c.loop-taken.invariant.stands h es (c.copy-next.ensures h es stands)))

pub returns-clause-decode : goal.returns-clause-decode
returns-clause-decode c bits =
    decode_by bits (bits_of c.args.octets.now) c.loop-taken.events.items c.args.self.now c.loop-taken.next
    (λ h es stands. laws.at_whole c.loop-taken.taken c.args.octets.now h _ c.loop-taken.next (omega (arith, c.loop-taken-test.false)) (c.loop-taken.invariant.stands h es (c.copy-next.ensures h es stands)))
