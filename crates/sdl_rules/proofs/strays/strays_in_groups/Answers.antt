use Rattle.std.proofs.Common.{subst, take_all, map, List}
use Rattle.std.specs.List.{flat_map}
use Rattle.sdl_ast.specs.declared.tree.Group.{Group}
use Rattle.sdl_ast.specs.Views.{group_of}
use Rattle.sdl_rules.specs.Faults.{AreOf, constants_places, group_constants}
use Rattle.sdl_rules.specs.Views.{sight_of}
use Rattle.sdl_rules.proofs.FaultPlaces.{constants_more}
use Rattle.sdl_rules.proofs.strays.strays_in_groups.Goals as goal

pub loop-group-preserved : goal.loop-group-preserved
loop-group-preserved c =
    constants_more (sight_of c.args.sight.now) group_of group_constants c.args.groups.now c.loop-group.group-index c.group-item.result c.loop-group.found c.strays_in_group.result c.first_of-found.result
    c.loop-group-test.true c.group-item.is c.loop-group.invariant
    c.strays_in_group.ensures c.first_of-found.ensures

pub returns : goal.returns
returns c =
    subst (λ (l : List Group). AreOf (constants_places (sight_of c.args.sight.now) (flat_map group_constants (map group_of l))) c.loop-group.found)
    (take_all c.loop-group.group-index c.args.groups.now c.loop-group-test.false) c.loop-group.invariant
