use Rattle.std.proofs.Common.{◌≡◌, map, take, nat_lt, length}
use Rattle.std.specs.List.{list_any}
use Rattle.sdl_ast.specs.Views.{process_of}
use Rattle.sdl_tables.specs.Names.{variables_of}
use Rattle.sdl_measures.proofs.limits.has_many_variables.Given as goal

abbrev pub invariant-loop-table : goal.invariant-loop-table
invariant-loop-table l =
    l.any ≡ list_any (λ p. nat_lt 32 (length (variables_of p))) (map process_of (take l.table-index l.tables))
