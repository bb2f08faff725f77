use Rattle.line_play.proofs.SetTelling.{shown_none}
use Rattle.line_play.proofs.set.state.SetState.tell_one_asked.Goals as goal

pub returns-in-State : goal.returns-in-State
returns-in-State g c = rw (c.in-State.is, ← c.as_str.ensures.value) c.tell_state.ensures

pub returns-in-Value : goal.returns-in-Value
returns-in-Value g c = rw (c.in-Value.is, ← c.as_str-in-Value.ensures.value, ← c.as_str-in-Value-2.ensures.value) c.tell_value.ensures

pub returns-in-Measure : goal.returns-in-Measure
returns-in-Measure g c = rw c.in-Measure.is c.tell_measure.ensures

pub returns-in-Aborted : goal.returns-in-Aborted
returns-in-Aborted g c = rw c.in-Aborted.is c.tell_aborted.ensures

pub returns-in-Measures : goal.returns-in-Measures
returns-in-Measures g c = rw c.in-Measures.is c.tell_measures.ensures

pub returns-in_default : goal.returns-in_default
returns-in_default g c = shown_none c.args.order.now _ _ _ c.in_default.not-State c.in_default.not-Value c.in_default.not-Measure c.in_default.not-Aborted c.in_default.not-Measures
