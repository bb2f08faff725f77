use Rattle.sdl_compile.proofs.Meaning.{runs_as_meant}
use Rattle.sdl_compile.proofs.laws.meaning_law.Goals as goal

pub returns : goal.returns
returns c = runs_as_meant
