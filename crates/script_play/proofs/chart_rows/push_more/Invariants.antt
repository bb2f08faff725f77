-- The values written so far, and those still to write.
use Rattle.std.proofs.Common.{◌≡◌, ◌++◌, drop}
use Rattle.script_play.specs.Charted.{more_values}
use Rattle.script_play.proofs.chart_rows.push_more.Given as goal

abbrev pub invariant-loop-value : goal.invariant-loop-value
invariant-loop-value l =
    l.text.items ++ more_values (drop l.value-index l.values) ≡ l.initial.text.items ++ more_values l.values
