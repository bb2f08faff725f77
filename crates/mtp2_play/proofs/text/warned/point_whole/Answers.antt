use Rattle.mtp2_play.proofs.Warnings.{whole}
use Rattle.mtp2_play.proofs.text.warned.point_whole.Goals as goal

pub returns : goal.returns
returns c = λ said.
    whole c.point.result c.args.text.now c.args.tokens.now c.args.warning _ c.token_end.result c.name.result.now said c.new.ensures.bytes c.new-2.ensures.bytes c.token_end.ensures c.name.ensures
    c.point.ensures
