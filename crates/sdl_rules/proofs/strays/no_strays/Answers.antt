use Rattle.std.proofs.Common.{refl}
use Rattle.sdl_rules.proofs.strays.no_strays.Goals as goal

pub returns : goal.returns
returns c = record { unknown = refl; wrong = refl; divisor = refl }
