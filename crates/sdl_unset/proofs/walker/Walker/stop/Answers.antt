use Rattle.sdl_unset.proofs.Walkers.{stopped}
use Rattle.sdl_unset.proofs.walker.Walker.stop.Goals as goal

pub returns : goal.returns
returns c = λ p. stopped p c.args.self.now
