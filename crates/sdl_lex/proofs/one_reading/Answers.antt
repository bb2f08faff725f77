-- At most one item begins at each place.
use Rattle.sdl_lex.proofs.OneLemmas.{one_reading_lem}
use Rattle.sdl_lex.proofs.one_reading.Goals as goal

pub returns : goal.returns
returns c = one_reading_lem
