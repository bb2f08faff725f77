use Rattle.std.proofs.Common.{◌≡◌, map, take, None, []}
use Rattle.std.specs.List.{flat_map}
use Rattle.sdl_ast.specs.Views.{process_of}
use Rattle.sdl_tables.specs.Scopes.{Marks, repeats, process_scopes}
use Rattle.sdl_tables.proofs.block_parts.build_tables.Given as goal

abbrev pub invariant-loop-process : goal.invariant-loop-process
invariant-loop-process l =
    (l.double ≡ None → l.tables.items ≡ map (λ p. p.now) (take l.process-index l.processes))
    × Marks l.double (flat_map (λ p. flat_map (repeats []) (process_scopes (process_of p.now))) (take l.process-index l.processes))
