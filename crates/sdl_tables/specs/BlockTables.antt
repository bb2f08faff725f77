-- The contents of the tables of a block.
use Rattle.std.specs.Prelude.{◌≡◌, [], map}
use Rattle.std.specs.List.{flat_map}
use Rattle.sdl_ast.specs.Views.{block_of, signal_of, route_of, process_of}
use Rattle.sdl_tables.specs.Names.{signal_names, signals_of, routes_of, process_names, processes_of}
use Rattle.sdl_tables.specs.RouteIndexes.{mentions_of, Indexes}
use Rattle.sdl_tables.specs.Routes.{paths_of}
use Rattle.sdl_tables.specs.Scopes.{double_names}
use Rattle.sdl_tables.specs.declared.block_table.BlockTable.TheInside.{Inside}

-- the tables agree with the block, and no name is a duplicate
pub record HasBlockTables (t : Inside) : Type 0 where
  pub signals : t.signals ≡ signal_names (block_of t.block.now)
  pub rows : map (λ s. signal_of s.now) t.rows.items ≡ signals_of (block_of t.block.now)
  pub routes : map (λ r. route_of r.now) t.routes.items ≡ routes_of (block_of t.block.now)
  pub index : Indexes t.index (flat_map mentions_of (paths_of (block_of t.block.now)))
  pub processes : t.processes ≡ process_names (block_of t.block.now)
  pub tables : map process_of t.tables.items ≡ processes_of (block_of t.block.now)
  pub distinct : double_names (block_of t.block.now) ≡ []
