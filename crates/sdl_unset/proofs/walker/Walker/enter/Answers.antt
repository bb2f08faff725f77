use Rattle.sdl_unset.proofs.Walkers.{entered}
use Rattle.sdl_unset.proofs.walker.Walker.enter.Goals as goal

pub returns : goal.returns
returns c = λ p there. entered p c.args.self.now c.args.state c.add_mask.new.masks c.add_mask.ensures.count c.add_mask.ensures.bits there
