use Rattle.std.proofs.Common.{◌+◌, ◌-◌, length}
use Rattle.sdl_meaning.specs.Outcomes.{Scope}
use Rattle.sdl_emit.specs.Uses.{AreUses}
use Rattle.sdl_emit.proofs.uses.grow.Given as goal

abbrev pub invariant-loop-uses : goal.invariant-loop-uses
invariant-loop-uses l = (c : Scope) → AreUses c l.initial.uses.items → AreUses c l.uses.items

abbrev pub decreases-loop-uses : goal.decreases-loop-uses
decreases-loop-uses l = l.last + 1 - length l.uses.items
