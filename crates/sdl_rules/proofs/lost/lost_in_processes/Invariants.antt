use Rattle.std.proofs.Common.{map, take}
use Rattle.std.specs.List.{flat_map}
use Rattle.sdl_sound.specs.Actions.{in_statements}
use Rattle.sdl_rules.specs.Asked.{asked}
use Rattle.sdl_rules.specs.declared.statements.StatementRule.TheVariants.{Receivers}
use Rattle.sdl_tables.specs.Scopes.{Marks}
use Rattle.sdl_ast.specs.Views.{block_of, process_of}
use Rattle.sdl_rules.proofs.lost.lost_in_processes.Given as goal

abbrev pub invariant-loop-process : goal.invariant-loop-process
invariant-loop-process l =
    Marks l.place (flat_map (λ p. in_statements (asked Receivers (block_of l.block) p) p) (map process_of (take l.process-index l.processes)))
