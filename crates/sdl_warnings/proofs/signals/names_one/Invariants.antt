use Rattle.std.proofs.Common.{map, take, ◌≡◌}
use Rattle.sdl_ast.specs.Views.{stimulus_of}
use Rattle.sdl_tables.specs.Names.{is_in}
use Rattle.sdl_warnings.proofs.signals.names_one.Given as goal

abbrev pub invariant-loop-stimulus : goal.invariant-loop-stimulus
invariant-loop-stimulus l =
    l.any ≡ is_in (map (λ s. s.name) (map stimulus_of (take l.stimulus-index l.stimuli))) l.name
