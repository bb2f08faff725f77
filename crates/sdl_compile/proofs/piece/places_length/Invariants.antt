use Rattle.std.proofs.Common.{◌≡◌, ◌≤◌, ◌+◌, ◌*◌, drop}
use Rattle.sdl_sound.specs.Longest.{places_cost}
use Rattle.sdl_compile.proofs.piece.places_length.Given as goal

abbrev pub invariant-loop-place : goal.invariant-loop-place
invariant-loop-place l = record {
  sum : l.length + places_cost (drop l.place-index l.places) ≡ places_cost l.places;
  low : l.length ≤ 2 * l.place-index;
}
