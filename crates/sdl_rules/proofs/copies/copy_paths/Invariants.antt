use Rattle.std.proofs.Common.{◌≡◌, map, take}
use Rattle.sdl_ast.specs.Views.{path_of}
use Rattle.sdl_rules.proofs.copies.copy_paths.Given as goal

abbrev pub invariant-loop-path : goal.invariant-loop-path
invariant-loop-path l =
    map path_of l.copies.items ≡ map path_of (take l.path-index l.given)
