use Rattle.mtp2_words.proofs.Asking.{all_named}
use Rattle.mtp2_words.proofs.words.checked.Goals as goal

pub returns-in_ok-sets-in-Some-clause-all : goal.returns-in_ok-sets-in-Some-clause-all
returns-in_ok-sets-in-Some-clause-all c = all_named c.args.given.now _ _ c.in-Some.ensures c.in_ok-sets-in-Some.ensures
