use Rattle.std.proofs.Common.{sym, ◌∙◌, lit<, Some, None}
use Rattle.std.proofs.lemmas.Str.Pattern.{strip_prefix_char}
use Rattle.script_lines.proofs.NumberLemmas.{integer_of-minus, integer_of-plain}
use Rattle.script_lines.proofs.numbers.integer.Goals as goal

pub returns-in-Some : goal.returns-in-Some
returns-in-Some c =
    c.negative.ensures ∙ sym (integer_of-minus c.args.word.now c.in-Some.digits.now (strip_prefix_char 45 c.args.word.now (Some c.in-Some.digits) c.in-Some.ensures.cases (lit< tt)))

pub returns-in-None : goal.returns-in-None
returns-in-None c = c.positive.ensures ∙ sym (integer_of-plain c.args.word.now (strip_prefix_char 45 c.args.word.now None c.in-None.ensures.cases (lit< tt)))
