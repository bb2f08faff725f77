use Rattle.std.proofs.Common.{map, take}
use Rattle.std.specs.List.{flat_map}
use Rattle.sdl_sound.specs.Ends.{process_strays}
use Rattle.sdl_tables.specs.Scopes.{Marks}
use Rattle.sdl_ast.specs.Views.{process_of}
use Rattle.sdl_scopes.proofs.ends.stray_in_processes.Given as goal

abbrev pub invariant-loop-process : goal.invariant-loop-process
invariant-loop-process l =
    Marks l.place (flat_map process_strays (map process_of (take l.process-index l.processes)))
