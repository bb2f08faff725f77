use Rattle.std.proofs.Common.{map, take}
use Rattle.std.specs.List.{flat_map}
use Rattle.sdl_sound.specs.Ends.{input_strays}
use Rattle.sdl_tables.specs.Scopes.{Marks}
use Rattle.sdl_ast.specs.Views.{process_of, input_of}
use Rattle.sdl_scopes.proofs.ends.stray_in_inputs.Given as goal

abbrev pub invariant-loop-input : goal.invariant-loop-input
invariant-loop-input l =
    Marks l.place (flat_map (input_strays (process_of l.process)) (map (λ i. input_of i.now) (take l.input-index l.inputs)))
