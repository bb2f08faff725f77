use Rattle.mtp2_words.specs.Asked.{given_by}
use Rattle.mtp2_words.proofs.Asking.{draws_process}
use Rattle.mtp2_words.proofs.words.drawn.Goals as goal

pub returns-in-Some-clause-asked : goal.returns-in-Some-clause-asked
returns-in-Some-clause-asked c =
    draws_process (given_by c.args.given.now) _ _ _ _ _ c.in_ok-word.ensures c.set_named-set.ensures c.get_str-2.ensures
    c.is_given-states.ensures c.in-Some.ensures
