use Rattle.std.proofs.Common.{◌∙◌, sym}
use Rattle.line_streams.proofs.Waits.{was_put, wasnt_put, put_lines, wasnt_put_lines, counted_more, counted_same}
use Rattle.line_streams.proofs.backlog.Backlog.put.Goals as goal

pub returns-then-is_err-clause-none : goal.returns-then-is_err-clause-none
returns-then-is_err-clause-none c = λ none.
    wasnt_put_lines c.push_back.result _ c.self.inside.lines.items c.push_back.new.self.items _ c.push_back.ensures.items c.is_err.ensures.negation c.if-is_err.true
    ∙ c.self.view_is

pub returns-clause-put : goal.returns-clause-put
returns-clause-put c = λ put.
    put_lines c.push_back.result _ c.self.inside.lines.items c.push_back.new.self.items _ c.push_back.ensures.items c.is_err.ensures.negation c.if-is_err.false
    (sym c.self.view_is)

pub invariant_of-self : goal.invariant_of-self
invariant_of-self c =
    counted_same c.self.inside.lines.items c.push_back.new.self.items _ _
    (sym (wasnt_put c.push_back.result _ c.self.inside.lines.items c.push_back.new.self.items _ c.push_back.ensures.items c.is_err.ensures.negation c.if-is_err.true))
    c.self.invariant

pub invariant_of-self-2 : goal.invariant_of-self-2
invariant_of-self-2 c =
    counted_more _ c.self.inside.lines.items c.push_back.new.self.items _ _ _ _ _ _
    (was_put c.push_back.result _ c.self.inside.lines.items c.push_back.new.self.items _ c.push_back.ensures.items c.is_err.ensures.negation c.if-is_err.false)
    c.self.invariant c.messages_in.ensures c.answers_in.ensures c.in-Some.ensures.1 c.in-Some-checked_add.ensures.1
