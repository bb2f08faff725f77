use Rattle.std.proofs.Common.{◌≡◌, map, take}
use Rattle.sdl_ast.specs.Views.{signal_of}
use Rattle.sdl_rules.proofs.copies.copy_signals.Given as goal

abbrev pub invariant-loop-signal : goal.invariant-loop-signal
invariant-loop-signal l =
    map signal_of l.copies.items ≡ map signal_of (take l.signal-index l.given)
