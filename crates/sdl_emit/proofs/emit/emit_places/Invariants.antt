use Rattle.std.proofs.Common.{◌≡◌, ◌++◌, drop}
use Rattle.sdl_emit.specs.Scopes.{scope_in}
use Rattle.sdl_meaning.specs.Named.{NamedPlaces}
use Rattle.sdl_meaning.specs.Code.{places_code}
use Rattle.sdl_emit.proofs.emit.emit_places.Given as goal

abbrev pub invariant-loop-j : goal.invariant-loop-j
invariant-loop-j l = record {
  code : l.code.items ++ places_code (scope_in l.names) l.j (drop l.j l.places) ≡ l.initial.code.items ++ places_code (scope_in l.names) 0 l.places;
  named : NamedPlaces (scope_in l.names) (drop l.j l.places);
}
