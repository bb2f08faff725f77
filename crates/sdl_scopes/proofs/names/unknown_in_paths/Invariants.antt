use Rattle.std.proofs.Common.{map, take}
use Rattle.std.specs.List.{flat_map}
use Rattle.sdl_sound.specs.Names.{path_unknown}
use Rattle.sdl_tables.specs.Scopes.{Marks}
use Rattle.sdl_ast.specs.Views.{block_of, path_of}
use Rattle.sdl_scopes.proofs.names.unknown_in_paths.Given as goal

abbrev pub invariant-loop-path : goal.invariant-loop-path
invariant-loop-path l =
    Marks l.place (flat_map (path_unknown (block_of l.block)) (map path_of (take l.path-index l.paths)))
