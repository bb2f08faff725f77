use Rattle.std.proofs.Common.{map, take, ◌≡◌}
use Rattle.std.specs.List.{list_any}
use Rattle.sdl_ast.specs.Views.{process_of}
use Rattle.sdl_warnings.specs.Warned.{uses_outer}
use Rattle.sdl_warnings.proofs.synonyms.any_uses_outer.Given as goal

abbrev pub invariant-loop-process : goal.invariant-loop-process
invariant-loop-process l =
    l.any ≡ list_any (uses_outer l.name) (map process_of (take l.process-index l.processes))
