-- The receivers of the effects so far participate.
use Rattle.std.proofs.Common.{take}
use Rattle.std.specs.List.{list_any}
use Rattle.script_play.specs.Charted.{get_it, goes_outside, TakesPart}
use Rattle.script_play.proofs.charts.Chart.enter_receivers.Given as goal

abbrev pub invariant-loop-place : goal.invariant-loop-place
invariant-loop-place l =
    TakesPart (get_it l.set l.me l.lost 0 (take l.place l.effects)) (list_any goes_outside (take l.place l.effects)) l.initial.self l.self
