use Rattle.std.proofs.Common.{map, take}
use Rattle.std.specs.List.{flat_map}
use Rattle.sdl_tables.specs.Scopes.{Marks}
use Rattle.sdl_ast.specs.Views.{block_of, process_of, clause_of}
use Rattle.sdl_tables.specs.Names.{clause_saves}
use Rattle.sdl_sound.specs.Names.{unknown, trigger_names}
use Rattle.sdl_scopes.proofs.names.unknown_in_saves.Given as goal

abbrev pub invariant-loop-clause : goal.invariant-loop-clause
invariant-loop-clause l =
    Marks l.place (unknown (trigger_names (block_of l.block) (process_of l.process)) (flat_map clause_saves (map clause_of (take l.clause-index l.clauses))))
