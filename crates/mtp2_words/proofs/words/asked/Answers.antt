use Rattle.std.proofs.lemmas.Result.{IfOk-weaker}
use Rattle.mtp2_words.specs.Asked.{no_set}
use Rattle.mtp2_words.proofs.words.asked.Goals as goal

pub returns-in-set-clause-none : goal.returns-in-set-clause-none
returns-in-set-clause-none c = IfOk-weaker c.tended.result _ _ (λ o says none. no_set c.in-set.is (says none)) c.tended.ensures.none
