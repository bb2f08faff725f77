use Rattle.std.proofs.Common.{map, take, ◌≡◌}
use Rattle.sdl_ast.specs.Views.{path_of}
use Rattle.sdl_tables.specs.Names.{is_in}
use Rattle.std.specs.List.{list_any}
use Rattle.sdl_warnings.proofs.signals.is_on_path.Given as goal

abbrev pub invariant-loop-path : goal.invariant-loop-path
invariant-loop-path l =
    l.any ≡ list_any (λ path. is_in path.signals l.signal) (map path_of (take l.path-index l.paths))
