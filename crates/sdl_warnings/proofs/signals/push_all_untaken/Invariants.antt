use Rattle.std.proofs.Common.{take, ◌++◌, ◌≡◌}
use Rattle.sdl_ast.specs.Views.{block_of}
use Rattle.sdl_warnings.specs.Warned.{untaken_signal}
use Rattle.std.specs.List.{flat_map}
use Rattle.sdl_warnings.proofs.signals.push_all_untaken.Given as goal

abbrev pub invariant-loop-signal : goal.invariant-loop-signal
invariant-loop-signal l =
    l.found.items ≡ l.initial.found.items ++ flat_map (untaken_signal (block_of l.block) l.to) (take l.signal-index l.signals)
