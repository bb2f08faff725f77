use Rattle.std.proofs.Common.{◌≡◌, take, min}
use Rattle.sdl_sound.specs.Longest.{places_depth}
use Rattle.sdl_measures.proofs.counts.places_depth.Given as goal

abbrev pub invariant-loop-place : goal.invariant-loop-place
invariant-loop-place l =
    l.most ≡ min (places_depth (take l.place-index l.places)) 4294967295
