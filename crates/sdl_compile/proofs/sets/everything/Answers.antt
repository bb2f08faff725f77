use Rattle.std.proofs.Common.{refl}
use Rattle.sdl_compile.specs.Reads.{everything}
use Rattle.sdl_compile.proofs.sets.everything.Goals as goal

pub returns : goal.returns
unfolding everything
returns c = refl
