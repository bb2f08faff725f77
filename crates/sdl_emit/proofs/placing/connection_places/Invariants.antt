use Rattle.std.proofs.Common.{◌≡◌, length}
use Rattle.sdl_emit.specs.Scopes.{scope_in}
use Rattle.sdl_emit.proofs.Spacing.{Spaced}
use Rattle.sdl_emit.proofs.placing.connection_places.Given as goal

abbrev pub invariant-loop-left : goal.invariant-loop-left
invariant-loop-left l = record {
  spaced : Spaced (scope_in l.names) l.start l.placed l.places.items l.place l.left;
  size : length l.places.items ≡ length (scope_in l.names).process.connections;
}

abbrev pub decreases-loop-left : goal.decreases-loop-left
decreases-loop-left l = l.left
