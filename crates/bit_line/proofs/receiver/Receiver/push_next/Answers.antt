use Rattle.std.proofs.Common.{arith}
use Rattle.bit_line.proofs.EventLaws.{at_next}
use Rattle.bit_line.proofs.RunLaws.{run_zero}
use Rattle.bit_line.proofs.receiver.Receiver.push_next.Goals as goal

pub returns-then-taken-octets-clause-stands : goal.returns-then-taken-octets-clause-stands
returns-then-taken-octets-clause-stands c h before stands =
    c.take_run-taken.ensures.stands h _
    (run_zero c.in_ok-short.short h _ c.push_short.new.self c.args.octets.now (omega (arith, c.if-short-gt0.false)) (c.in_ok-short.ensures.stands h before stands))

pub returns-clause-stands : goal.returns-clause-stands
returns-clause-stands c h before stands =
    at_next c.take_run-taken.result c.args.octets.now h _ c.push_octet.new.self (omega (arith, c.take_run-taken.ensures.most, c.if-taken-octets.false))
    (c.in_ok-push_octet.ensures _ before
    (c.take_run-taken.ensures.stands h _
    (run_zero c.in_ok-short.short h _ c.push_short.new.self c.args.octets.now (omega (arith, c.if-short-gt0.false)) (c.in_ok-short.ensures.stands h before stands))))
