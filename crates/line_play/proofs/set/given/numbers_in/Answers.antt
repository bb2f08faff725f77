use Rattle.std.proofs.Common.{refl}
use Rattle.line_play.proofs.SetGiven.{links_more, links_all}
use Rattle.line_play.proofs.set.given.numbers_in.Goals as goal

pub loop-word-preserved : goal.loop-word-preserved
loop-word-preserved c =
    links_more c.args.words.now c.loop-word.word-index _ _ _ _ c.loop-word-test.true c.loop-word.invariant c.number.ensures c.in_ok-push.ensures.items

pub returns : goal.returns
returns c = links_all c.args.words.now c.loop-word.word-index _ c.loop-word-test.false c.loop-word.invariant
