use Rattle.std.proofs.Common.{sym, ◌∙◌}
use Rattle.sdl_unset.proofs.Walkers.{at_start}
use Rattle.sdl_unset.proofs.walker.Walker.at_start.Goals as goal

pub returns : goal.returns
returns c = λ p count. at_start p c.in_ok-enters.enters _ (c.in_ok-enters.ensures.count ∙ sym count) c.in_ok-enters.ensures.empty
