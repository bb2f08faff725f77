use Rattle.std.proofs.Common.{sym, ◌∙◌}
use Rattle.line_play.proofs.set.state.SetState.is_bare.Goals as goal

pub returns-then-is_blank-clause-none : goal.returns-then-is_blank-clause-none
returns-then-is_blank-clause-none c = λ denied none_there. c.is_blank.ensures.none c.if-is_blank.true

pub returns-clause-mark : goal.returns-clause-mark
returns-clause-mark c = λ shown. sym c.as_str.ensures.value ∙ c.is_blank-2.ensures.none shown

pub returns-clause-some : goal.returns-clause-some
returns-clause-some c = λ shown. c.is_blank.ensures.some c.if-is_blank.false

pub returns-clause-none : goal.returns-clause-none
returns-clause-none c = λ denied none_there. absurd (c.is_blank-2.ensures.some denied (c.as_str.ensures.value ∙ none_there))
