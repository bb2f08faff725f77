use Rattle.sdl_meaning.proofs.Readings.{value_reads}
use Rattle.sdl_meaning.proofs.laws.values_law.Goals as goal

pub returns : goal.returns
returns c = value_reads
