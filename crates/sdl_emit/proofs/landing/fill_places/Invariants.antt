use Rattle.std.proofs.Common.{◌≡◌, ◌+◌, drop}
use Rattle.sdl_emit.specs.Landing.{filled}
use Rattle.sdl_emit.proofs.landing.fill_places.Given as goal

abbrev pub invariant-loop-instruction : goal.invariant-loop-instruction
invariant-loop-instruction l = record {
  code : filled l.code.items l.place (drop l.instruction-index l.instructions) ≡ filled l.initial.code.items l.first l.instructions;
  place : l.place ≡ l.first + l.instruction-index;
}
