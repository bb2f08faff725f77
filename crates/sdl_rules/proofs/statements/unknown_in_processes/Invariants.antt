use Rattle.std.proofs.Common.{map, take}
use Rattle.std.specs.List.{flat_map}
use Rattle.sdl_sound.specs.Names.{process_unknown}
use Rattle.sdl_tables.specs.Scopes.{Marks}
use Rattle.sdl_ast.specs.Views.{block_of, process_of}
use Rattle.sdl_rules.proofs.statements.unknown_in_processes.Given as goal

abbrev pub invariant-loop-process : goal.invariant-loop-process
invariant-loop-process l =
    Marks l.place (flat_map (process_unknown (block_of l.block)) (map process_of (take l.process-index l.processes)))
