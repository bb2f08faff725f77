use Rattle.sdl_unset.proofs.Bits.{does_none}
use Rattle.sdl_unset.proofs.flow.Flow.empty.Goals as goal

pub returns : goal.returns
returns c = does_none _
