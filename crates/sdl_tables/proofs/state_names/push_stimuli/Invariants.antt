use Rattle.std.proofs.Common.{◌≡◌, ◌++◌, map, take}
use Rattle.sdl_ast.specs.Views.{stimulus_of}
use Rattle.sdl_tables.proofs.state_names.push_stimuli.Given as goal

abbrev pub invariant-loop-stimulus : goal.invariant-loop-stimulus
invariant-loop-stimulus l =
    l.names.items ≡ l.initial.names.items ++ map (λ s. s.name) (map stimulus_of (take l.stimulus-index l.stimuli))
