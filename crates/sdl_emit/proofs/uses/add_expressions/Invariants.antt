use Rattle.sdl_emit.specs.Scopes.{scope_in}
use Rattle.sdl_emit.specs.Uses.{AreUses}
use Rattle.sdl_emit.proofs.uses.add_expressions.Given as goal

abbrev pub invariant-loop-expression : goal.invariant-loop-expression
invariant-loop-expression l = AreUses (scope_in l.names) l.uses.items
