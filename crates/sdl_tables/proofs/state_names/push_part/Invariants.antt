use Rattle.std.proofs.Common.{◌≡◌, ◌++◌, map, take}
use Rattle.std.specs.List.{flat_map}
use Rattle.sdl_ast.specs.Views.{clause_of}
use Rattle.sdl_tables.specs.Rows.{clause_names}
use Rattle.sdl_tables.proofs.state_names.push_part.Given as goal

abbrev pub invariant-loop-clause : goal.invariant-loop-clause
invariant-loop-clause l =
    l.names.items ≡ l.initial.names.items ++ flat_map (clause_names l.which) (map clause_of (take l.clause-index l.clause-items))
