use Rattle.sdl_unset.proofs.Walkers.{passed}
use Rattle.sdl_unset.proofs.walker.Walker.pass.Goals as goal

pub returns : goal.returns
returns c = λ p events d. passed p events c.args.self.now c.args.flow _ d
