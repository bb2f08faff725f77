use Rattle.sdl_emit.specs.Scopes.{scope_in}
use Rattle.sdl_emit.specs.Uses.{AreUses}
use Rattle.sdl_emit.proofs.uses.+uses.Given as goal

abbrev pub invariant-add_decision-loop-answer : goal.invariant-add_decision-loop-answer
invariant-add_decision-loop-answer l = AreUses (scope_in l.names) l.uses.items

abbrev pub invariant-add_transition-loop-statement : goal.invariant-add_transition-loop-statement
invariant-add_transition-loop-statement l = AreUses (scope_in l.names) l.uses.items
