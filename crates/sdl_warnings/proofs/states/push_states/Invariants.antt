use Rattle.std.proofs.Common.{◌++◌, ◌≡◌}
use Rattle.sdl_ast.specs.Views.{process_of}
use Rattle.sdl_warnings.specs.Warned.{unreached_state}
use Rattle.sdl_warnings.specs.Ways.{upto}
use Rattle.std.specs.List.{flat_map}
use Rattle.sdl_warnings.proofs.states.push_states.Given as goal

abbrev pub invariant-loop-number : goal.invariant-loop-number
invariant-loop-number l =
    l.found.items ≡ l.initial.found.items ++ flat_map (unreached_state (process_of l.process)) (upto l.number)
