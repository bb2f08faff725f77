use Rattle.std.proofs.Common.{sym, ◌∙◌}
use Rattle.mtp2_words.proofs.Asking.{all_lines, too_many_lines, no_lines}
use Rattle.mtp2_words.proofs.set_words.lines_of.Goals as goal

pub returns-then-not-are_few-clause-none : goal.returns-then-not-are_few-clause-none
returns-then-not-are_few-clause-none c = λ none. too_many_lines c.args.given.now _ c.in-Some.ensures (sym c.are_few.ensures ∙ c.if-not-are_few.true)

pub returns-in_ok-lines-in-Some-clause-some : goal.returns-in_ok-lines-in-Some-clause-some
returns-in_ok-lines-in-Some-clause-some c =
    rw c.in_ok-lines-in-Some.ensures.items (all_lines c.args.given.now _ c.in-Some.ensures (sym c.are_few.ensures ∙ c.if-not-are_few.false))

pub returns-in-None-clause-none : goal.returns-in-None-clause-none
returns-in-None-clause-none c = λ none. no_lines c.args.given.now c.in-None.ensures
