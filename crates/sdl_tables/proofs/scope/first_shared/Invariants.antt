use Rattle.std.proofs.Common.{take}
use Rattle.sdl_tables.specs.Scopes.{Marks, shared}
use Rattle.sdl_tables.proofs.scope.first_shared.Given as goal

abbrev pub invariant-loop-id : goal.invariant-loop-id
invariant-loop-id l = Marks l.place (shared l.names (take l.id-index l.ids))
