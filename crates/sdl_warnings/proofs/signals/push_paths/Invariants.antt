use Rattle.std.proofs.Common.{map, take, ◌++◌, ◌≡◌}
use Rattle.sdl_ast.specs.Views.{block_of, path_of}
use Rattle.sdl_warnings.specs.Warned.{untaken_in_path}
use Rattle.std.specs.List.{flat_map}
use Rattle.sdl_warnings.proofs.signals.push_paths.Given as goal

abbrev pub invariant-loop-path : goal.invariant-loop-path
invariant-loop-path l =
    l.found.items ≡ l.initial.found.items ++ flat_map (untaken_in_path (block_of l.block)) (map path_of (take l.path-index l.paths))
