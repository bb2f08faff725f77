use Rattle.std.proofs.Common.{map, take}
use Rattle.std.specs.List.{flat_map}
use Rattle.sdl_ast.specs.Views.{clause_of}
use Rattle.sdl_rules.specs.Faults.{AreOf, constants_places, clause_constants}
use Rattle.sdl_rules.specs.Views.{sight_of}
use Rattle.sdl_rules.proofs.strays.strays_in_clauses.Given as goal

abbrev pub invariant-loop-clause : goal.invariant-loop-clause
invariant-loop-clause l =
    AreOf (constants_places (sight_of l.sight) (flat_map clause_constants (map clause_of (take l.clause-index l.clauses)))) l.found
