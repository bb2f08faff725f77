-- The outputs written so far, and those still to write.
use Rattle.std.proofs.Common.{◌≡◌, ◌++◌, drop}
use Rattle.script_play.specs.Charted.{outs_text}
use Rattle.script_play.proofs.chart_rows.push_outputs.Given as goal

abbrev pub invariant-loop-place : goal.invariant-loop-place
invariant-loop-place l =
    l.rows.items ++ outs_text l.set l.me l.lost l.place (drop l.place l.effects) ≡ l.initial.rows.items ++ outs_text l.set l.me l.lost 0 l.effects
