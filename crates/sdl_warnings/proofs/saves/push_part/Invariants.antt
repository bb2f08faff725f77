use Rattle.std.proofs.Common.{map, take, ◌++◌, ◌≡◌}
use Rattle.sdl_ast.specs.Views.{clause_of, process_of, state_of}
use Rattle.sdl_warnings.specs.Warned.{vain_in_clause}
use Rattle.std.specs.List.{flat_map}
use Rattle.sdl_warnings.proofs.saves.push_part.Given as goal

abbrev pub invariant-loop-clause : goal.invariant-loop-clause
invariant-loop-clause l =
    l.found.items ≡ l.initial.found.items ++ flat_map (vain_in_clause (process_of l.standing.process.now) (state_of l.part)) (map clause_of (take l.clause-index l.clause-items))
