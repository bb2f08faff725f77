use Rattle.std.proofs.Common.{map, take}
use Rattle.std.specs.List.{flat_map}
use Rattle.sdl_sound.specs.Sorts.{wrong_stimulus}
use Rattle.sdl_tables.specs.Names.{variables_of}
use Rattle.sdl_tables.specs.Scopes.{Marks}
use Rattle.sdl_ast.specs.Views.{block_of, process_of, stimulus_of}
use Rattle.sdl_scopes.proofs.values.wrong_in_stimuli.Given as goal

abbrev pub invariant-loop-stimulus : goal.invariant-loop-stimulus
invariant-loop-stimulus l =
    Marks l.place (flat_map (wrong_stimulus (block_of l.block) (variables_of (process_of l.process))) (map stimulus_of (take l.stimulus-index l.stimuli)))
