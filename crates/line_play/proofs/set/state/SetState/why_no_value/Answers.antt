use Rattle.std.proofs.Common.{sym, ap, option_map, string_bytes, ◌∙◌}
use Rattle.line_play.specs.SetDoing.{value_at}
use Rattle.line_play.proofs.SetDoing.{line_refused, line_shown, nowhere_shown, there_line, there_none}
use Rattle.line_play.proofs.set.state.SetState.why_no_value.Goals as goal

pub returns-in-Some-clause-some : goal.returns-in-Some-clause-some
returns-in-Some-clause-some c =
    line_refused c.why_refused.result (λ s. string_bytes s) c.as_slice.result.now _
    (there_line (value_at c.args.process.now c.args.variable.now c.args.self.now.tender) c.in-Some.line.items c.as_slice.result.now _ _
    (ap (option_map (λ v. v.items)) (sym c.in-Some.is) ∙ c.in_ok-line.ensures) c.first_of-first.ensures c.as_slice.ensures.value)
    c.why_refused.ensures.some

pub returns-in-Some-clause-none : goal.returns-in-Some-clause-none
returns-in-Some-clause-none c =
    line_shown c.why_refused.result c.as_slice.result.now _
    (there_line (value_at c.args.process.now c.args.variable.now c.args.self.now.tender) c.in-Some.line.items c.as_slice.result.now _ _
    (ap (option_map (λ v. v.items)) (sym c.in-Some.is) ∙ c.in_ok-line.ensures) c.first_of-first.ensures c.as_slice.ensures.value)
    c.why_refused.ensures.none

pub returns-in-None-clause-none : goal.returns-in-None-clause-none
returns-in-None-clause-none c = λ none. nowhere_shown _
    (there_none (value_at c.args.process.now c.args.variable.now c.args.self.now.tender) _ _ (ap (option_map (λ v. v.items)) (sym c.in-None.is) ∙ c.in_ok-line.ensures) c.first_of-first.ensures)
