use Rattle.std.proofs.Common.{sym, subst}
use Rattle.sdl_emit.specs.Uses.{AreUses}
use Rattle.sdl_emit.proofs.Used.{one_slot}
use Rattle.sdl_emit.proofs.uses.grow.Goals as goal

pub loop-uses-preserved : goal.loop-uses-preserved
loop-uses-preserved c = λ s h. subst (AreUses s) (sym c.in_ok-push.ensures.items) (one_slot s c.loop-uses.uses.items (c.loop-uses.invariant s h))
