use Rattle.std.proofs.Common.{◌≡◌, map, take}
use Rattle.sdl_ast.specs.Views.{stimulus_of}
use Rattle.sdl_rules.proofs.copies.copy_stimuli.Given as goal

abbrev pub invariant-loop-stimulus : goal.invariant-loop-stimulus
invariant-loop-stimulus l =
    map stimulus_of l.copies.items ≡ map stimulus_of (take l.stimulus-index l.given)
