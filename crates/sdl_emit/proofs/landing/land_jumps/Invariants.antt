use Rattle.std.proofs.Common.{◌≡◌, drop}
use Rattle.sdl_emit.specs.Landing.{landed}
use Rattle.sdl_emit.proofs.landing.land_jumps.Given as goal

abbrev pub invariant-loop-place : goal.invariant-loop-place
invariant-loop-place l = landed l.after l.code.items (drop l.place-index l.jumps) ≡ landed l.after l.initial.code.items l.jumps
