use Rattle.sdl_rules.specs.Views.{sight_of}
use Rattle.sdl_rules.proofs.FaultPlaces.{constants_one}
use Rattle.sdl_rules.proofs.strays.strays_in_one.Goals as goal

pub returns : goal.returns
returns c = constants_one (sight_of c.args.sight.now) c.args.constant c.strays_in_constant.result c.strays_in_constant.ensures
