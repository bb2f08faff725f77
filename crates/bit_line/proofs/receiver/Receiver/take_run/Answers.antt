use Rattle.std.proofs.Common.{refl, arith}
use Rattle.bit_line.proofs.EventLaws.{copy_stands}
use Rattle.bit_line.proofs.RunLaws.{nothing_run, run_zero}
use Rattle.bit_line.proofs.receiver.Receiver.take_run.Goals as goal

pub returns-then-not-is_open-clause-stands : goal.returns-then-not-is_open-clause-stands
returns-then-not-is_open-clause-stands c h events stands =
    nothing_run h events c.take_front-front.new.self
    (run_zero c.take_front-front.result h events c.take_front-front.new.self c.args.octets.now (omega (arith, c.if-front-gt0.false)) (c.take_front-front.ensures.stands h events stands))

pub returns-clause-stands : goal.returns-clause-stands
returns-clause-stands c h events stands =
    copy_stands _ events _ _ refl (λ lets. record { seen = lets.seen; wait = lets.wait; content = lets.content }) refl
    (c.over-taken.ensures.stands c.take_front-front.new.self h events (c.is_open.ensures c.if-not-is_open.false)
    (copy_stands h events c.take_front-front.new.self _ refl (λ lets. record { seen = lets.seen; wait = lets.wait; content = lets.content }) refl
    (run_zero c.take_front-front.result h events c.take_front-front.new.self c.args.octets.now (omega (arith, c.if-front-gt0.false)) (c.take_front-front.ensures.stands h events stands))))
