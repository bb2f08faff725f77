use Rattle.std.proofs.Common.{subst, take_all, List}
use Rattle.std.specs.List.{flat_map}
use Rattle.sdl_ast.specs.declared.tree.Range.{Range}
use Rattle.sdl_rules.specs.Faults.{AreOf, constants_places, range_constants}
use Rattle.sdl_rules.specs.Views.{sight_of}
use Rattle.sdl_rules.proofs.FaultPlaces.{constants_next}
use Rattle.sdl_rules.proofs.strays.strays_in_ranges.Goals as goal

pub loop-range-preserved : goal.loop-range-preserved
loop-range-preserved c =
    constants_next (sight_of c.args.sight.now) range_constants c.args.ranges.now c.loop-range.range-index c.range-item.result c.loop-range.found c.strays_in_range.result c.first_of-found.result
    c.loop-range-test.true c.range-item.is c.loop-range.invariant
    c.strays_in_range.ensures c.first_of-found.ensures

pub returns : goal.returns
returns c =
    subst (λ (l : List Range). AreOf (constants_places (sight_of c.args.sight.now) (flat_map range_constants (l))) c.loop-range.found)
    (take_all c.loop-range.range-index c.args.ranges.now c.loop-range-test.false) c.loop-range.invariant
