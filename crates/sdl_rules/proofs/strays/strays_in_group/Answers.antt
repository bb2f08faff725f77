use Rattle.std.proofs.Common.{Option, sym, subst}
use Rattle.std.specs.Option.{option_to_list}
use Rattle.sdl_ast.specs.declared.tree.Constant.{Constant}
use Rattle.sdl_rules.specs.Faults.{AreOf, constants_places}
use Rattle.sdl_rules.specs.Views.{sight_of}
use Rattle.sdl_rules.proofs.strays.strays_in_group.Goals as goal

pub returns-in-None : goal.returns-in-None
returns-in-None c =
    subst (λ (o : Option Constant). AreOf (constants_places (sight_of c.args.sight.now) (option_to_list o)) c.no_strays.result) (sym c.in-None.is) c.no_strays.ensures

pub returns-in-Some : goal.returns-in-Some
returns-in-Some c =
    subst (λ (o : Option Constant). AreOf (constants_places (sight_of c.args.sight.now) (option_to_list o)) c.strays_in_one.result) (sym c.in-Some.is) c.strays_in_one.ensures
