use Rattle.std.proofs.Common.{take}
use Rattle.sdl_sound.specs.Names.{unknown, place_names}
use Rattle.sdl_tables.specs.Scopes.{Marks}
use Rattle.sdl_scopes.proofs.names.unknown_in_places.Given as goal

abbrev pub invariant-loop-place : goal.invariant-loop-place
invariant-loop-place l =
    Marks l.found (unknown l.names (place_names (take l.place-index l.places)))
