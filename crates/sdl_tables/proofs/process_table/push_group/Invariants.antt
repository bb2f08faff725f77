use Rattle.std.proofs.Common.{◌≡◌, map, ◌++◌, take}
use Rattle.sdl_tables.specs.Rows.{variable_of}
use Rattle.sdl_tables.proofs.process_table.push_group.Given as goal

abbrev pub invariant-loop-name : goal.invariant-loop-name
invariant-loop-name l =
    map variable_of l.rows.items ≡ map variable_of l.initial.rows.items ++ map (λ id. record { name = id; sort = l.group.sort; initial = l.group.initial }) (take l.name-index l.name-items)
