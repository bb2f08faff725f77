use Rattle.sdl_emit.specs.Scopes.{scope_in}
use Rattle.sdl_emit.specs.Uses.{AreUses}
use Rattle.sdl_emit.proofs.uses.add_sendings.Given as goal

abbrev pub invariant-loop-sending : goal.invariant-loop-sending
invariant-loop-sending l = AreUses (scope_in l.names) l.uses.items
