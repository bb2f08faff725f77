use Rattle.std.proofs.Common.{Option, Some, None, refl, sym, subst}
use Rattle.sdl_ast.specs.declared.expression.Identifier.{Identifier}
use Rattle.sdl_rules.specs.Faults.{AreOf, use_places}
use Rattle.sdl_rules.specs.Views.{sight_of}
use Rattle.sdl_rules.specs.declared.strays.Strays.{Strays}
use Rattle.sdl_rules.proofs.strays.strays_in_constant.Goals as goal

pub returns-in-None : goal.returns-in-None
returns-in-None c =
    subst (λ (o : Option Identifier). AreOf (use_places (sight_of c.args.sight.now) c.args.constant.now.is_negated o) c.no_strays.result) (sym c.in-None.is) c.no_strays.ensures

pub returns-in-Some : goal.returns-in-Some
returns-in-Some c =
    let s = sight_of c.args.sight.now in
    let found : Strays = record { unknown = c.unseen.result; wrong = c.negated_boolean.result; divisor = None } in
    let P : Option Identifier → Type 0 = λ o. AreOf (use_places s c.args.constant.now.is_negated o) found in
    let there : P (Some c.in-Some.synonym) = record { unknown = c.unseen.ensures; wrong = c.negated_boolean.ensures; divisor = refl } in
    subst P (sym c.in-Some.is) there
