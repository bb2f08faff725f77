use Rattle.std.proofs.Common.{◌≡◌, map, ◌++◌, take}
use Rattle.sdl_ast.specs.Views.{signal_of}
use Rattle.sdl_tables.proofs.block_parts.push_signals.Given as goal

abbrev pub invariant-loop-signal : goal.invariant-loop-signal
invariant-loop-signal l =
    map (λ s. signal_of s.now) l.rows.items ≡ map (λ s. signal_of s.now) l.initial.rows.items ++ map signal_of (take l.signal-index l.declared)
