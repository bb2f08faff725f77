use Rattle.std.proofs.Common.{◌≡◌, ◌++◌, drop}
use Rattle.sdl_emit.specs.Scopes.{scope_in}
use Rattle.sdl_meaning.specs.Named.{NamedPlaces}
use Rattle.sdl_compile.specs.Reads.{places_set}
use Rattle.sdl_compile.specs.Facts.{places_sets}
use Rattle.sdl_compile.proofs.sets.mark_places.Given as goal

abbrev pub invariant-loop-place : goal.invariant-loop-place
invariant-loop-place l = record {
  sets : l.sets.items ++ places_sets (scope_in l.names) l.set (drop l.place-index l.places) ≡ l.initial.sets.items ++ places_sets (scope_in l.names) l.fn.set l.places;
  behind : places_set (scope_in l.names) l.set (drop l.place-index l.places) ≡ places_set (scope_in l.names) l.fn.set l.places;
  named : NamedPlaces (scope_in l.names) (drop l.place-index l.places);
}
