use Rattle.std.proofs.Common.{sym}
use Rattle.sdl_ast.proofs.HeightLemmas.{above_zero}
use Rattle.sdl_ast.proofs.height.+exceeds.Goals as goal

pub returns-then-limit-eq0 : goal.returns-then-limit-eq0
returns-then-limit-eq0 t c = rw c.if-limit-eq0.true (sym (above_zero _))
