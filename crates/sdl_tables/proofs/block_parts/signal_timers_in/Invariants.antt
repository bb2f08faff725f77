use Rattle.std.proofs.Common.{take}
use Rattle.std.specs.List.{flat_map}
use Rattle.sdl_ast.specs.Views.{process_of}
use Rattle.sdl_tables.specs.Names.{timers_of}
use Rattle.sdl_tables.specs.Scopes.{Marks, shared}
use Rattle.sdl_tables.proofs.block_parts.signal_timers_in.Given as goal

abbrev pub invariant-loop-process : goal.invariant-loop-process
invariant-loop-process l =
    Marks l.place (flat_map (λ p. shared l.signals (timers_of (process_of p.now))) (take l.process-index l.processes))
