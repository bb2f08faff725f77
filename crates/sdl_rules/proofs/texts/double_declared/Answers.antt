use Rattle.sdl_rules.proofs.Refusing.{double_there, double_nowhere}
use Rattle.sdl_rules.proofs.texts.double_declared.Goals as goal

pub returns-in-Some-clause-some : goal.returns-in-Some-clause-some
returns-in-Some-clause-some c = λ b are. double_there c.args.declared.now b are c.in-Some.at c.in-Some.is

pub returns-in-None-clause-none : goal.returns-in-None-clause-none
returns-in-None-clause-none c = λ none b are kept. double_nowhere c.args.declared.now b are c.in-None.is kept
