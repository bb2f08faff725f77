use Rattle.sdl_compile.proofs.Meant.{set_of_block}
use Rattle.sdl_compile.proofs.laws.set_law.Goals as goal

pub returns : goal.returns
returns c = set_of_block
