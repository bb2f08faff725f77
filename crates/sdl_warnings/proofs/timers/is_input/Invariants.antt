use Rattle.std.proofs.Common.{map, take, ◌≡◌}
use Rattle.sdl_ast.specs.Views.{input_of}
use Rattle.sdl_warnings.specs.Warned.{names_stimulus}
use Rattle.std.specs.List.{list_any}
use Rattle.sdl_warnings.proofs.timers.is_input.Given as goal

abbrev pub invariant-loop-input : goal.invariant-loop-input
invariant-loop-input l =
    l.any ≡ list_any (names_stimulus l.name) (map (λ i. input_of i.now) (take l.input-index l.inputs))
