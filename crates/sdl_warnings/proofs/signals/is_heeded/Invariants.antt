use Rattle.std.proofs.Common.{map, take, ◌&&◌, ◌≡◌}
use Rattle.sdl_ast.specs.Views.{process_of}
use Rattle.sdl_tables.specs.Names.{same_name}
use Rattle.sdl_warnings.specs.Warned.{heeds}
use Rattle.std.specs.List.{list_any}
use Rattle.sdl_warnings.proofs.signals.is_heeded.Given as goal

abbrev pub invariant-loop-process : goal.invariant-loop-process
invariant-loop-process l =
    l.any ≡ list_any (λ p. same_name l.to p.name.name && heeds p l.signal) (map process_of (take l.process-index l.processes))
