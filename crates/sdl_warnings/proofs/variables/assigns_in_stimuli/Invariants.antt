use Rattle.std.proofs.Common.{map, take, ◌≡◌}
use Rattle.sdl_ast.specs.Views.{stimulus_of}
use Rattle.sdl_warnings.specs.Warned.{stimulus_assigns}
use Rattle.std.specs.List.{list_any}
use Rattle.sdl_warnings.proofs.variables.assigns_in_stimuli.Given as goal

abbrev pub invariant-loop-stimulus : goal.invariant-loop-stimulus
invariant-loop-stimulus l =
    l.any ≡ list_any (stimulus_assigns l.name) (map stimulus_of (take l.stimulus-index l.stimuli))
