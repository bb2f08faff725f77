use Rattle.mtp2_words.proofs.Asking.{named_more}
use Rattle.mtp2_words.proofs.words.sets_named.Goals as goal

pub loop-word-preserved : goal.loop-word-preserved
loop-word-preserved c =
    named_more c.args.words.now c.loop-word.word-index _ c.loop-word.sets.items c.push.new.self.items c.set_named.result c.in_ok-push.ensures.items
    c.loop-word-test.true c.set_named.ensures c.loop-word.invariant
