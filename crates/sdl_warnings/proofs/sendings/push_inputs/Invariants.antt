use Rattle.std.proofs.Common.{map, take, ◌++◌, ◌≡◌}
use Rattle.sdl_ast.specs.Views.{block_of, input_of, process_of}
use Rattle.sdl_warnings.specs.Warned.{unsent_stimulus}
use Rattle.std.specs.List.{flat_map}
use Rattle.sdl_warnings.proofs.sendings.push_inputs.Given as goal

abbrev pub invariant-loop-input : goal.invariant-loop-input
invariant-loop-input l =
    l.found.items ≡ l.initial.found.items ++ flat_map (λ i. flat_map (unsent_stimulus (block_of l.block) (process_of l.process)) i.stimuli) (map (λ i. input_of i.now) (take l.input-index l.inputs))
