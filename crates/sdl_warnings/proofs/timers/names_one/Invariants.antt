use Rattle.std.proofs.Common.{map, take, ◌≡◌}
use Rattle.sdl_ast.specs.Views.{stimulus_of}
use Rattle.sdl_tables.specs.Names.{same_name}
use Rattle.std.specs.List.{list_any}
use Rattle.sdl_warnings.proofs.timers.names_one.Given as goal

abbrev pub invariant-loop-stimulus : goal.invariant-loop-stimulus
invariant-loop-stimulus l =
    l.any ≡ list_any (λ s. same_name l.name s.name.name) (map stimulus_of (take l.stimulus-index l.stimuli))
