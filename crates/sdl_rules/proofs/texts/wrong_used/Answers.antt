use Rattle.sdl_rules.proofs.Refusing.{wrong_there, wrong_nowhere}
use Rattle.sdl_rules.proofs.texts.wrong_used.Goals as goal

pub returns-in-Some-clause-some : goal.returns-in-Some-clause-some
returns-in-Some-clause-some c = λ b are before. wrong_there c.args.declared.now b are c.in-Some.at c.in-Some.is before

pub returns-in-None-clause-none : goal.returns-in-None-clause-none
returns-in-None-clause-none c = λ none b are before kept. wrong_nowhere c.args.declared.now b are c.in-None.is before kept
