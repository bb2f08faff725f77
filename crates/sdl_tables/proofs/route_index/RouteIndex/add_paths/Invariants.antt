use Rattle.std.proofs.Common.{◌++◌, List, map, take}
use Rattle.std.specs.List.{flat_map}
use Rattle.sdl_ast.specs.Views.{path_of}
use Rattle.sdl_tables.specs.RouteIndexes.{Mention, mentions_of, Indexes}
use Rattle.sdl_tables.proofs.route_index.RouteIndex.add_paths.Given as goal

abbrev pub invariant-loop-path : goal.invariant-loop-path
invariant-loop-path l =
    (ms : List Mention) → Indexes l.initial.self ms → Indexes l.self (ms ++ flat_map mentions_of (map path_of (take l.path-index l.paths)))
