-- The effects written so far, and those still to write.
use Rattle.std.proofs.Common.{◌≡◌, ◌++◌, drop}
use Rattle.script_seen.specs.Told.{effects_text}
use Rattle.script_seen.proofs.turns.push_effects.Given as goal

abbrev pub invariant-loop-place : goal.invariant-loop-place
invariant-loop-place l =
    l.line.items ++ effects_text l.set l.clock l.me l.lost l.place (drop l.place l.effects)
    ≡ l.initial.line.items ++ effects_text l.set l.clock l.me l.lost 0 l.effects
