use Rattle.std.proofs.Common.{ap, ◌∙◌}
use Rattle.script_play.proofs.Charting.{turn_rows}
use Rattle.script_play.proofs.charts.Chart.push_rows.Goals as goal

pub returns-clause-rows : goal.returns-clause-rows
returns-clause-rows c o ran =
    turn_rows c.args.set.now c.args.ended.now c.job-job.result.now c.place.result c.deref.result.now c.effects-effects.result.now c.args.self.now.clock
    c.args.self.now.rows.items _ _ _ _ _ c.job-job.ensures (c.place.ensures ∙ ap (λ t. t.place) c.job-job.ensures) c.deref.ensures.0
    c.effects-effects.ensures.value c.in_ok-push_time.ensures c.in_ok-push_came.ensures c.in_ok-push_box.ensures c.in_ok-push_outputs.ensures
    c.in_ok-push_timers.ensures o ran
