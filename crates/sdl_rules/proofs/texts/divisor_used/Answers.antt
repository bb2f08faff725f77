use Rattle.sdl_rules.proofs.Refusing.{divisor_there, divisor_nowhere}
use Rattle.sdl_rules.proofs.texts.divisor_used.Goals as goal

pub returns-in-Some-clause-some : goal.returns-in-Some-clause-some
returns-in-Some-clause-some c = λ b are before answered. divisor_there c.args.declared.now b are c.in-Some.at c.in-Some.is before answered

pub returns-in-None-clause-none : goal.returns-in-None-clause-none
returns-in-None-clause-none c = λ none b are before kept. divisor_nowhere c.args.declared.now b are c.in-None.is before kept
