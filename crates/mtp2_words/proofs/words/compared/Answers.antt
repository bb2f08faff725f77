use Rattle.std.proofs.Common.{refl}
use Rattle.mtp2_words.specs.Asked.{given_by}
use Rattle.mtp2_words.proofs.Asking.{compares, compares_nothing}
use Rattle.mtp2_words.proofs.words.compared.Goals as goal

pub returns-in-Some-clause-asked : goal.returns-in-Some-clause-asked
returns-in-Some-clause-asked c =
    compares (given_by c.args.given.now) _ _ _ _ c.in_ok-old.ensures c.in_ok-new.ensures c.in-Some.ensures.some

pub returns-in-None-clause-none : goal.returns-in-None-clause-none
returns-in-None-clause-none c = λ n. compares_nothing (given_by c.args.given.now) _ _ c.in_ok-old.ensures c.in_ok-new.ensures (c.in-None.ensures.none refl)
