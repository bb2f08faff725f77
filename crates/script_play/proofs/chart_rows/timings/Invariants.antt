-- The effects written so far, and those still to write.
use Rattle.std.proofs.Common.{◌≡◌, ◌++◌, drop}
use Rattle.std.specs.List.{flat_map}
use Rattle.script_play.specs.Charted.{timing_of, below_each}
use Rattle.script_play.proofs.chart_rows.timings.Given as goal

abbrev pub invariant-loop-effect : goal.invariant-loop-effect
invariant-loop-effect l =
    l.text.items ++ below_each (flat_map (timing_of l.set l.process.0 l.clock) (drop l.effect-index l.effects))
    ≡ below_each (flat_map (timing_of l.set l.process.0 l.clock) l.effects)
