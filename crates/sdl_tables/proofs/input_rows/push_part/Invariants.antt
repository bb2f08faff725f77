use Rattle.std.proofs.Common.{◌≡◌, map, ◌++◌, take}
use Rattle.std.specs.List.{flat_map}
use Rattle.sdl_ast.specs.Views.{clause_of}
use Rattle.sdl_tables.specs.Names.{clause_inputs}
use Rattle.sdl_tables.specs.Rows.{row_input}
use Rattle.sdl_tables.proofs.input_rows.push_part.Given as goal

abbrev pub invariant-loop-clause : goal.invariant-loop-clause
invariant-loop-clause l =
    map row_input l.rows.items ≡ map row_input l.initial.rows.items ++ flat_map clause_inputs (map clause_of (take l.clause-index l.clause-items))
