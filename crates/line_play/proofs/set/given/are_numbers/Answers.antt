use Rattle.std.proofs.Common.{refl, sym}
use Rattle.line_play.proofs.SetGiven.{number_there, number_lacks, numbers_more, no_numbers, numbers_all}
use Rattle.line_play.proofs.set.given.are_numbers.Goals as goal

pub loop-word-init : goal.loop-word-init
loop-word-init c = refl

pub loop-word-preserved : goal.loop-word-preserved
loop-word-preserved c =
    numbers_more c.args.words.now c.loop-word.word-index _ c.loop-word-test.true c.loop-word.invariant
    (number_there c.count.result _ c.is_none.result c.count.ensures.value c.is_none.ensures c.if-is_none.false)

pub returns-then-is_none : goal.returns-then-is_none
returns-then-is_none c =
    sym (no_numbers c.args.words.now c.loop-word.word-index _ c.loop-word-test.true
    (number_lacks c.count.result _ c.is_none.result c.count.ensures.value c.is_none.ensures c.if-is_none.true))

pub returns : goal.returns
returns c = sym (numbers_all c.args.words.now c.loop-word.word-index c.loop-word-test.false c.loop-word.invariant)
