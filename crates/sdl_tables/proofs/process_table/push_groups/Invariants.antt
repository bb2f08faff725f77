use Rattle.std.proofs.Common.{◌≡◌, map, ◌++◌, take}
use Rattle.std.specs.List.{flat_map}
use Rattle.sdl_tables.specs.Names.{group_variables}
use Rattle.sdl_ast.specs.Views.{group_of}
use Rattle.sdl_tables.specs.Rows.{variable_of}
use Rattle.sdl_tables.proofs.process_table.push_groups.Given as goal

abbrev pub invariant-loop-group : goal.invariant-loop-group
invariant-loop-group l =
    map variable_of l.rows.items ≡ map variable_of l.initial.rows.items ++ flat_map group_variables (map group_of (take l.group-index l.groups))
