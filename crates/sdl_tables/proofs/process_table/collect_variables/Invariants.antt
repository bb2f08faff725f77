use Rattle.std.proofs.Common.{◌≡◌, map, take}
use Rattle.std.specs.List.{flat_map}
use Rattle.sdl_tables.specs.Names.{declared_variables}
use Rattle.sdl_ast.specs.Views.{declaration_of}
use Rattle.sdl_tables.specs.Rows.{variable_of}
use Rattle.sdl_tables.proofs.process_table.collect_variables.Given as goal

abbrev pub invariant-loop-declaration : goal.invariant-loop-declaration
invariant-loop-declaration l =
    map variable_of l.rows.items ≡ flat_map declared_variables (map declaration_of (take l.declaration-index l.declarations))
