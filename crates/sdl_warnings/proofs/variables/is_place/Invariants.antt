use Rattle.std.proofs.Common.{take, ◌≡◌}
use Rattle.sdl_sound.specs.Names.{place_names}
use Rattle.sdl_tables.specs.Names.{is_in}
use Rattle.sdl_warnings.proofs.variables.is_place.Given as goal

abbrev pub invariant-loop-place : goal.invariant-loop-place
invariant-loop-place l =
    l.any ≡ is_in (place_names (take l.place-index l.places)) l.name
