use Rattle.std.proofs.Common.{◌≡◌, map, take}
use Rattle.sdl_ast.specs.Views.{signal_of}
use Rattle.sdl_meaning.specs.Declarations.{drafted_signal}
use Rattle.sdl_compile.proofs.block.compile_signals.Given as goal

abbrev pub invariant-loop-row : goal.invariant-loop-row
invariant-loop-row l = l.signals.items ≡ map drafted_signal (map (λ s. signal_of s.now) (take l.row-index l.rows))
