use Rattle.std.proofs.Common.{take, ◌++◌, ◌≡◌}
use Rattle.sdl_ast.specs.Views.{process_of}
use Rattle.sdl_warnings.specs.Warned.{idle_timer}
use Rattle.std.specs.List.{flat_map}
use Rattle.sdl_warnings.proofs.timers.push_names.Given as goal

abbrev pub invariant-loop-timer : goal.invariant-loop-timer
invariant-loop-timer l =
    l.found.items ≡ l.initial.found.items ++ flat_map (idle_timer (process_of l.process)) (take l.timer-index l.timers)
