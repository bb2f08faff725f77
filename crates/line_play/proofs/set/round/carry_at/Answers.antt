use Rattle.line_play.proofs.SetRounds.{carried_at}
use Rattle.line_play.proofs.set.round.carry_at.Goals as goal

pub returns : goal.returns
returns g c =
    carried_at c.carry.result c.args.line.link c.args.line.plan.ahead c.args.tender.now c.carry.new.tender c.args.wires.now c.index-wires-link.result c.carry.new.wire _ _ _ _
    c.requires c.carry.ensures
