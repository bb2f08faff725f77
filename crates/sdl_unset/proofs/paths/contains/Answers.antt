use Rattle.sdl_unset.proofs.Seen.{has-shift}
use Rattle.sdl_unset.proofs.paths.contains.Goals as goal

pub returns : goal.returns
returns c = has-shift c.args.bits c.args.variable
