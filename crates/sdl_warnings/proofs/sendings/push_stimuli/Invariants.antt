use Rattle.std.proofs.Common.{map, take, ◌++◌, ◌≡◌}
use Rattle.sdl_ast.specs.Views.{block_of, process_of, stimulus_of}
use Rattle.sdl_warnings.specs.Warned.{unsent_stimulus}
use Rattle.std.specs.List.{flat_map}
use Rattle.sdl_warnings.proofs.sendings.push_stimuli.Given as goal

abbrev pub invariant-loop-stimulus : goal.invariant-loop-stimulus
invariant-loop-stimulus l =
    l.found.items ≡ l.initial.found.items ++ flat_map (unsent_stimulus (block_of l.block) (process_of l.process)) (map stimulus_of (take l.stimulus-index l.stimuli))
