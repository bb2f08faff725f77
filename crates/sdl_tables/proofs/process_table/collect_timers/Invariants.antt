use Rattle.std.proofs.Common.{◌≡◌, map, take}
use Rattle.std.specs.List.{flat_map}
use Rattle.sdl_ast.specs.Views.{declaration_of}
use Rattle.sdl_tables.specs.Names.{timers_in}
use Rattle.sdl_tables.proofs.process_table.collect_timers.Given as goal

abbrev pub invariant-loop-declaration : goal.invariant-loop-declaration
invariant-loop-declaration l =
    l.rows.items ≡ flat_map timers_in (map declaration_of (take l.declaration-index l.declarations))
