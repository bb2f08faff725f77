use Rattle.std.proofs.Common.{◌≡◌, drop, max}
use Rattle.turn_code.specs.Rules.{greatest, depths}
use Rattle.sdl_compile.proofs.facts.greatest_depth.Given as goal

abbrev pub invariant-loop-place : goal.invariant-loop-place
invariant-loop-place l = max l.depth (greatest (depths (drop l.place-index l.facts))) ≡ greatest (depths l.facts)
