-- The effects applied so far, and those still to apply.
use Rattle.std.proofs.Common.{◌≡◌, drop}
use Rattle.tick_wheel.specs.Turning.{timers_of}
use Rattle.script_seen.specs.Following.{timers_laid}
use Rattle.script_seen.proofs.timing.lay_all.Given as goal

abbrev pub invariant-loop-effect : goal.invariant-loop-effect
invariant-loop-effect l =
    timers_laid l.actor (timers_of l.wheel) (drop l.effect-index l.effects) ≡ timers_laid l.actor (timers_of l.initial.wheel) l.effects
