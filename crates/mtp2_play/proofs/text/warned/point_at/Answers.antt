use Rattle.std.proofs.Common.{rules}
use Rattle.mtp2_play.proofs.Warnings.{by_head, by_all}
use Rattle.mtp2_play.proofs.text.warned.point_at.Goals as goal

pub returns-then-is_long : goal.returns-then-is_long
returns-then-is_long c =
    by_head c.point_head.result _ c.args.text.now c.args.tokens.now c.args.warning _ _ _ (search rules) (search rules) (search rules) (search rules) (c.is_long.ensures.long c.if-is_long.true)
    c.point_head.ensures

pub returns : goal.returns
returns c =
    by_all c.point_whole.result _ c.args.text.now c.args.tokens.now c.args.warning _ (search rules) (search rules) (c.is_long.ensures.short c.if-is_long.false)
    (c.point_whole.ensures (search rules))
