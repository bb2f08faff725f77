use Rattle.std.proofs.Common.{map, take}
use Rattle.std.specs.List.{flat_map}
use Rattle.sdl_sound.specs.Sorts.{wrong_input}
use Rattle.sdl_tables.specs.Names.{variables_of}
use Rattle.sdl_tables.specs.Scopes.{Marks}
use Rattle.sdl_ast.specs.Views.{block_of, input_of, process_of}
use Rattle.sdl_scopes.proofs.values.wrong_in_inputs.Given as goal

abbrev pub invariant-loop-input : goal.invariant-loop-input
invariant-loop-input l =
    Marks l.place (flat_map (wrong_input (block_of l.block) (variables_of (process_of l.process))) (map (λ i. input_of i.now) (take l.input-index l.inputs)))
