use Rattle.std.proofs.Common.{refl}
use Rattle.sdl_measures.proofs.measures.code_size.Goals as goal

pub returns : goal.returns
returns c = (c.measure_transition.ensures 0 0 (record { budget = refl; effects = refl })).size
