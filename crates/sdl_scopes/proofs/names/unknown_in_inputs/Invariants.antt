use Rattle.std.proofs.Common.{map, take}
use Rattle.std.specs.List.{flat_map}
use Rattle.sdl_sound.specs.Names.{input_unknown}
use Rattle.sdl_tables.specs.Scopes.{Marks}
use Rattle.sdl_ast.specs.Views.{block_of, process_of, input_of}
use Rattle.sdl_scopes.proofs.names.unknown_in_inputs.Given as goal

abbrev pub invariant-loop-input : goal.invariant-loop-input
invariant-loop-input l =
    Marks l.place (flat_map (input_unknown (block_of l.block) (process_of l.process)) (map (λ i. input_of i.now) (take l.input-index l.inputs)))
