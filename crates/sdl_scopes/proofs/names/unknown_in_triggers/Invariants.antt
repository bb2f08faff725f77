use Rattle.std.proofs.Common.{take}
use Rattle.sdl_tables.specs.Scopes.{Marks}
use Rattle.sdl_ast.specs.Views.{block_of, process_of}
use Rattle.sdl_sound.specs.Names.{unknown, trigger_names}
use Rattle.sdl_scopes.proofs.names.unknown_in_triggers.Given as goal

abbrev pub invariant-loop-id : goal.invariant-loop-id
invariant-loop-id l =
    Marks l.place (unknown (trigger_names (block_of l.block) (process_of l.process)) (take l.id-index l.ids))
