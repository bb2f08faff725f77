use Rattle.std.proofs.Common.{◌≡◌, map, take}
use Rattle.sdl_ast.specs.Views.{clause_of}
use Rattle.sdl_rules.specs.Expansion.{expanded_clause}
use Rattle.sdl_rules.specs.Views.{sight_of}
use Rattle.sdl_rules.proofs.processes.expand_clauses.Given as goal

abbrev pub invariant-loop-clause : goal.invariant-loop-clause
invariant-loop-clause l =
    map clause_of l.copies.items ≡ map (expanded_clause (sight_of l.sight)) (map clause_of (take l.clause-index l.given))
