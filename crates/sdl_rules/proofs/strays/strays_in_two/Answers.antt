use Rattle.std.proofs.Common.{[], ◌∷◌}
use Rattle.sdl_rules.specs.Views.{sight_of}
use Rattle.sdl_rules.proofs.FaultPlaces.{constants_both}
use Rattle.sdl_rules.proofs.strays.strays_in_two.Goals as goal

pub returns : goal.returns
returns c =
    constants_both (sight_of c.args.sight.now) (c.args.low ∷ []) (c.args.high ∷ []) c.strays_in_one-first.result c.strays_in_one-second.result c.first_of.result
    c.strays_in_one-first.ensures c.strays_in_one-second.ensures c.first_of.ensures
