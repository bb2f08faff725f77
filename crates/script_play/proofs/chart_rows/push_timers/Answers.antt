use Rattle.std.proofs.Common.{◌∙◌}
use Rattle.std.proofs.lemmas.Result.{on_ok_weaker}
use Rattle.script_play.proofs.chart_rows.push_timers.Goals as goal

pub returns : goal.returns
returns c = on_ok_weaker c.push_note.result (λ noted. noted _ (c.deref.ensures.value ∙ c.in_ok-text.ensures)) c.push_note.ensures
