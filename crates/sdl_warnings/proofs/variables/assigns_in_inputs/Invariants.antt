use Rattle.std.proofs.Common.{map, take, ◌≡◌}
use Rattle.sdl_ast.specs.Views.{input_of}
use Rattle.sdl_warnings.specs.Warned.{input_assigns}
use Rattle.std.specs.List.{list_any}
use Rattle.sdl_warnings.proofs.variables.assigns_in_inputs.Given as goal

abbrev pub invariant-loop-input : goal.invariant-loop-input
invariant-loop-input l =
    l.any ≡ list_any (input_assigns l.name) (map (λ i. input_of i.now) (take l.input-index l.inputs))
