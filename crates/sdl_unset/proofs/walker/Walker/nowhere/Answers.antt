use Rattle.std.proofs.Common.{sym, ◌∙◌}
use Rattle.sdl_unset.proofs.Walkers.{nowhere}
use Rattle.sdl_unset.proofs.walker.Walker.nowhere.Goals as goal

pub returns : goal.returns
returns c = λ p count. nowhere p c.in_ok-enters.enters _ (c.in_ok-enters.ensures.count ∙ sym count) c.in_ok-enters.ensures.empty
