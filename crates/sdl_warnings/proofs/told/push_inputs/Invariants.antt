use Rattle.std.proofs.Common.{map, take, ◌++◌, ◌≡◌}
use Rattle.sdl_ast.specs.Views.{input_of}
use Rattle.sdl_sound.specs.Statements.{statements_of}
use Rattle.sdl_warnings.specs.Standing.{part_of}
use Rattle.std.specs.List.{flat_map}
use Rattle.sdl_warnings.proofs.told.push_inputs.Given as goal

abbrev pub invariant-loop-input : goal.invariant-loop-input
invariant-loop-input l =
    map part_of l.parts.items ≡ map part_of l.initial.parts.items ++ flat_map (λ i. statements_of i.text) (map (λ i. input_of i.now) (take l.input-index l.inputs))
