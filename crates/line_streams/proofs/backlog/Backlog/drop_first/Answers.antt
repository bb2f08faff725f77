use Rattle.std.proofs.Common.{◌∙◌}
use Rattle.line_streams.proofs.Waits.{dropped_none, dropped_some, dropped_not, dropped_absent_by, same_lines, counted_less, counted_same}
use Rattle.line_streams.proofs.backlog.Backlog.drop_first.Goals as goal

pub returns-in_default-clause-none : goal.returns-in_default-clause-none
returns-in_default-clause-none c = λ none.
    dropped_none c.self.inside.lines.items c.pop_front.new.self.items
    (same_lines c.pop_front.result c.self.inside.lines.items c.pop_front.new.self.items c.in_default.not-Some c.pop_front.ensures.items) (c.self.view_is ∙ none)

pub returns-in_default-clause-some : goal.returns-in_default-clause-some
returns-in_default-clause-some c = λ first left parts.
    dropped_absent_by c.pop_front.result c.self.inside.lines.items c.pop_front.new.self.items _ c.in_default.not-Some c.self.inside.lines.ok.0
    c.pop_front.ensures.variant.1 first left (c.self.view_is ∙ parts)

pub returns-clause-none : goal.returns-clause-none
returns-clause-none c = λ none.
    dropped_not c.in-Some.first c.self.inside.lines.items c.pop_front.new.self.items c.in-Some.ensures.items (c.self.view_is ∙ none)

pub returns-clause-some : goal.returns-clause-some
returns-clause-some c = λ first left parts.
    dropped_some c.in-Some.first c.self.inside.lines.items c.pop_front.new.self.items c.in-Some.ensures.items first left (c.self.view_is ∙ parts)

pub invariant_of-self : goal.invariant_of-self
invariant_of-self c =
    counted_same c.self.inside.lines.items c.pop_front.new.self.items _ _
    (same_lines c.pop_front.result c.self.inside.lines.items c.pop_front.new.self.items c.in_default.not-Some c.pop_front.ensures.items) c.self.invariant

pub invariant_of-self-2 : goal.invariant_of-self-2
invariant_of-self-2 c =
    counted_less c.in-Some.first c.self.inside.lines.items c.pop_front.new.self.items _ _ _ _ _ _ c.in-Some.ensures.items c.self.invariant
    c.messages_in.ensures c.answers_in.ensures c.saturating_sub-self-inside.ensures c.saturating_sub-self-inside-2.ensures
