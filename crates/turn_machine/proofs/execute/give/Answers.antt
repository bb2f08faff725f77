use Rattle.std.proofs.Common.{arith}
use Rattle.turn_machine.proofs.UnderWay.{can_give, has_room, gave_one}
use Rattle.turn_machine.proofs.execute.give.Goals as goal

pub effect-effect-requires : goal.effect-effect-requires
effect-effect-requires c = can_give c.args.piece.now c.args.given c.in-Some.given c.args.effects.now.items c.in-Some.is c.requires

pub push-requires : goal.push-requires
push-requires c = (omega arith, has_room c.args.piece.now c.args.given c.in-Some.given c.args.effects.now.items c.in-Some.is c.requires)

pub returns-in-Some : goal.returns-in-Some
returns-in-Some c =
    λ es h.
    gave_one c.args.piece.now c.args.given c.in-Some.given c.args.effects.now.items c.push.new.self.items es c.effect-effect.result c.in-Some.is
    c.effect-effect.ensures c.push.ensures.items h
