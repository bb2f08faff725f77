use Rattle.std.proofs.Common.{◌≡◌, take, min}
use Rattle.sdl_sound.specs.Longest.{places_cost}
use Rattle.sdl_measures.proofs.counts.places_cost.Given as goal

abbrev pub invariant-loop-place : goal.invariant-loop-place
invariant-loop-place l =
    l.total ≡ min (places_cost (take l.place-index l.places)) 4294967295
