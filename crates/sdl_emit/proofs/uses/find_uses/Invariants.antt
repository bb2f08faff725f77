use Rattle.sdl_emit.specs.Scopes.{scope_in}
use Rattle.sdl_emit.specs.Uses.{AreUses}
use Rattle.sdl_emit.proofs.uses.find_uses.Given as goal

abbrev pub invariant-loop-part : goal.invariant-loop-part
invariant-loop-part l = AreUses (scope_in l.names) l.uses.items

abbrev pub invariant-loop-connection : goal.invariant-loop-connection
invariant-loop-connection l = AreUses (scope_in l.names) l.uses.items
