use Rattle.sdl_unset.proofs.Walkers.{mask_added}
use Rattle.sdl_unset.proofs.walker.add_mask.Goals as goal

pub returns-then-state-len-clause-bits : goal.returns-then-state-len-clause-bits
returns-then-state-len-clause-bits c = λ within. mask_added c.args.masks.now.items c.args.state c.args.mask c.index_mut.result.now within c.index_mut.ensures.value
