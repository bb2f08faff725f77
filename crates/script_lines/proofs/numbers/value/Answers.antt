use Rattle.std.proofs.Common.{sym, ◌∙◌, refl}
use Rattle.script_lines.specs.Numbers.{value_of}
use Rattle.script_lines.proofs.NumberLemmas.{value_of-other}
use Rattle.script_lines.proofs.numbers.value.Goals as goal

pub returns-in-true : goal.returns-in-true
unfolding value_of
returns-in-true c = rw c.in-true.is refl

pub returns-in-false : goal.returns-in-false
unfolding value_of
returns-in-false c = rw c.in-false.is refl

pub returns-in_default : goal.returns-in_default
returns-in_default c = c.integer_value.ensures ∙ sym (value_of-other c.args.word.now c.in_default.not-true c.in_default.not-false)
