use Rattle.std.proofs.Common.{string_bytes}
use Rattle.line_play.proofs.SetDoing.{refused_line, may_show}
use Rattle.line_play.proofs.set.state.SetState.why_unanswered.Goals as goal

pub returns-in-State-clause-some : goal.returns-in-State-clause-some
returns-in-State-clause-some c = rw (c.in-State.is, ← c.as_str.ensures.value) (refused_line c.why_no_state.result (λ s. string_bytes s) _ _ c.why_no_state.ensures.some)

pub returns-in-State-clause-none : goal.returns-in-State-clause-none
returns-in-State-clause-none c = rw (c.in-State.is, ← c.as_str.ensures.value) c.why_no_state.ensures.none

pub returns-in-Value-clause-some : goal.returns-in-Value-clause-some
returns-in-Value-clause-some c = rw (c.in-Value.is, ← c.as_str-in-Value.ensures.value, ← c.as_str-in-Value-2.ensures.value) (refused_line c.why_no_value.result (λ s. string_bytes s) _ _ c.why_no_value.ensures.some)

pub returns-in-Value-clause-none : goal.returns-in-Value-clause-none
returns-in-Value-clause-none c = rw (c.in-Value.is, ← c.as_str-in-Value.ensures.value, ← c.as_str-in-Value-2.ensures.value) c.why_no_value.ensures.none

pub returns-in_default-clause-none : goal.returns-in_default-clause-none
returns-in_default-clause-none c = λ none. may_show c.args.order.now c.args.links.now c.args.self.now.tender c.in_default.not-State c.in_default.not-Value
