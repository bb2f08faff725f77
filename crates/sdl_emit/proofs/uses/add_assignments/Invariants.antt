use Rattle.sdl_emit.specs.Scopes.{scope_in}
use Rattle.sdl_emit.specs.Uses.{AreUses}
use Rattle.sdl_emit.proofs.uses.add_assignments.Given as goal

abbrev pub invariant-loop-assignment : goal.invariant-loop-assignment
invariant-loop-assignment l = AreUses (scope_in l.names) l.uses.items
