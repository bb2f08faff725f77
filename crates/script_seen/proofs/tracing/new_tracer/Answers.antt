use Rattle.script_seen.proofs.Steps.{opened_agree}
use Rattle.script_seen.proofs.tracing.new_tracer.Goals as goal

pub returns-clause-agree : goal.returns-clause-agree
returns-clause-agree c = opened_agree _ _ _ _ _ c.in_ok-wheel.wheel c.in_ok-again.ensures c.in_ok-wheel.ensures.clock c.in_ok-wheel.ensures.deadlines
