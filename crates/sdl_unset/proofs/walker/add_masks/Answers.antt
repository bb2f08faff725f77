use Rattle.std.proofs.Common.{arith}
use Rattle.sdl_unset.proofs.Walkers.{masks_added}
use Rattle.sdl_unset.proofs.walker.add_masks.Goals as goal

pub returns-clause-bits : goal.returns-clause-bits
returns-clause-bits c =
    masks_added c.args.masks.now.items c.loop-state.masks.items c.args.others.now c.args.keeps c.loop-state.state c.loop-state.invariant.0 (omega arith)
    c.loop-state.invariant.1 c.loop-state.invariant.2
