use Rattle.std.proofs.Common.{◌≡◌, ◌++◌, drop, map}
use Rattle.std.specs.List.{flat_map}
use Rattle.sdl_ast.specs.Views.{process_of}
use Rattle.sdl_ast.specs.declared.tree.Party.TheVariants.{Process}
use Rattle.draw_text.proofs.parties.push_processes.Given as goal

abbrev pub invariant-loop-process : goal.invariant-loop-process
invariant-loop-process l = l.parties.items ++ map (λ p. Process p.name) (map process_of (drop l.process-index l.processes)) ≡ l.initial.parties.items ++ map (λ p. Process p.name) (map process_of l.processes)
