use Rattle.std.proofs.Common.{map, take, ◌++◌, ◌≡◌}
use Rattle.sdl_ast.specs.Views.{block_of, signal_of}
use Rattle.sdl_warnings.specs.Warned.{unrouted_signal}
use Rattle.std.specs.List.{flat_map}
use Rattle.sdl_warnings.proofs.signals.push_signals.Given as goal

abbrev pub invariant-loop-signal : goal.invariant-loop-signal
invariant-loop-signal l =
    l.found.items ≡ l.initial.found.items ++ flat_map (unrouted_signal (block_of l.block)) (map (λ s. signal_of s.now) (take l.signal-index l.signals))
