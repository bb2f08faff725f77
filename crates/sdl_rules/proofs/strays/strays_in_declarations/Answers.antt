use Rattle.std.proofs.Common.{subst, take_all, map, List}
use Rattle.std.specs.List.{flat_map}
use Rattle.sdl_ast.specs.declared.tree.Declaration.{Declaration}
use Rattle.sdl_ast.specs.Views.{declaration_of}
use Rattle.sdl_rules.specs.Faults.{AreOf, constants_places, declaration_constants}
use Rattle.sdl_rules.specs.Views.{sight_of}
use Rattle.sdl_rules.proofs.FaultPlaces.{constants_more}
use Rattle.sdl_rules.proofs.strays.strays_in_declarations.Goals as goal

pub loop-declaration-preserved : goal.loop-declaration-preserved
loop-declaration-preserved c =
    constants_more (sight_of c.args.sight.now) declaration_of declaration_constants c.args.declarations.now c.loop-declaration.declaration-index c.declaration-item.result c.loop-declaration.found c.strays_in_declaration.result c.first_of-found.result
    c.loop-declaration-test.true c.declaration-item.is c.loop-declaration.invariant
    c.strays_in_declaration.ensures c.first_of-found.ensures

pub returns : goal.returns
returns c =
    subst (λ (l : List Declaration). AreOf (constants_places (sight_of c.args.sight.now) (flat_map declaration_constants (map declaration_of l))) c.loop-declaration.found)
    (take_all c.loop-declaration.declaration-index c.args.declarations.now c.loop-declaration-test.false) c.loop-declaration.invariant
