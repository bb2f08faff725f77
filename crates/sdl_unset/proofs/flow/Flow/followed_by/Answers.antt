use Rattle.sdl_unset.proofs.Bits.{does_after}
use Rattle.sdl_unset.proofs.flow.Flow.followed_by.Goals as goal

pub returns : goal.returns
returns c = λ p xs ys d e. does_after _ p xs ys c.args.self c.args.next d e
